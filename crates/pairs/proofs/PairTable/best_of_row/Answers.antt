-- `best_of_row`: before each turn the first of the best so far and the rest of the row is the first of all.
use mathlib.Core.Path.{sym, ◌∙◌}
use Rattle.pairs.proofs.Rows.{row_turn, row_done}
use Rattle.pairs.proofs.PairTable.best_of_row.Goals as goal

pub loop-to-preserved : goal.loop-to-preserved
loop-to-preserved c =
    rw (c.first_of-first.ensures, c.entry.ensures, ← row_turn _ _ _ _ _ _ c.loop-to-test.true)
    c.loop-to.invariant

pub returns : goal.returns
returns c =
    sym (row_done _ _ _ _ _ _ c.loop-to-test.false) ∙ c.loop-to.invariant
