-- `best`: before each row the first of the best so far and the rows from here on is the first of all.
use mathlib.Core.Path.{sym, ◌∙◌}
use Rattle.pairs.specs.Pairs.{least_entry}
use Rattle.pairs.proofs.Rows.{rows_turn, rows_done}
use Rattle.pairs.proofs.PairTable.best.Goals as goal

pub loop-from-preserved : goal.loop-from-preserved
loop-from-preserved c =
    rw (c.best_of_row-best.ensures, ← rows_turn _ _ _ _ _ c.loop-from-test.true) c.loop-from.invariant

pub returns : goal.returns
unfolding least_entry
returns c =
    rw c.none_below-best.ensures at (sym (rows_done _ _ _ _ _ c.loop-from-test.false) ∙ c.loop-from.invariant)
