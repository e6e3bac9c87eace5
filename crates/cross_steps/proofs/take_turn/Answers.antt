-- `take_turn`: the scan over all pairs is the definition's choice, its move can be made, and the tables are then what the run's own step leads to.
use Rattle.cross_steps.proofs.Turns.{asks_part, kept_part, chosen_in, turned}
use Rattle.cross_steps.proofs.take_turn.Goals as goal

pub best_move-best-requires-clause-held : goal.best_move-best-requires-clause-held
best_move-best-requires-clause-held c =
    (asks_part _ _ _ _ _ _ c.requires.live).0

pub best_move-best-requires-clause-kept : goal.best_move-best-requires-clause-kept
best_move-best-requires-clause-kept c =
    kept_part _ _ _ _ _ _ _ _ c.args.n _ _ c.requires.kept

pub make_found-requires-clause-makes : goal.make_found-requires-clause-makes
make_found-requires-clause-makes c =
    let chosen = chosen_in _ _ _ _ _ _ _ _ _ c.requires.live _ c.requires.floor _ c.best_move-best.ensures.value in
    (chosen.makes, c.requires.live.few)

pub returns : goal.returns
returns c =
    turned _ _ _ _ _ _ _ _ _ _ _ c.requires.live c.requires.floor _ c.best_move-best.ensures.value _ _ _ _ _ _
    c.best_move-best.ensures.kept_2 c.make_found.auto.lengths c.make_found.auto.ids c.make_found.auto.costs _ c.make_found.ensures
