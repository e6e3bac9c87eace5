-- `best_from`: the positions before the piece and those behind it, one part after the other.
use Rattle.segment_moves.proofs.Rows.{row-chosen}
use Rattle.segment_moves.proofs.best_from.Goals as goal

pub best_between-requires-clause-known : goal.best_between-requires-clause-known
best_between-requires-clause-known c =
    c.best_between-before.ensures.known

pub returns : goal.returns
returns c =
    row-chosen _ c.args.terms _ _ _ _ _ _ _ _ c.last_position-end.ensures c.best_between-before.ensures c.best_between.ensures
