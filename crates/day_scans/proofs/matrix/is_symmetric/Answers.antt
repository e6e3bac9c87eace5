-- `is_symmetric`: the rows passed are mirrored.
use borrow.Author.Rules.{rules}
use mathlib.Core.Path.{sym}
use Rattle.tests.specs.All.{all_none, all_more, all_fails, all_end, no, yes}
use Rattle.day.specs.Matrix.{symmetric}
use mathlib.Core.Path.{ap}
use mathlib.Core.Bool.{not}
use Rattle.day_scans.proofs.matrix.is_symmetric.Goals as goal

pub loop-from-init : goal.loop-from-init
loop-from-init c =
    (search rules, all_none _)

pub returns-then-not-row_mirrored : goal.returns-then-not-row_mirrored
unfolding symmetric
returns-then-not-row_mirrored c =
    sym (all_fails _ _ c.loop-from.from (search rules) (no _ _ c.row_mirrored.ensures (ap not c.if-not-row_mirrored.true)))

pub loop-from-preserved : goal.loop-from-preserved
loop-from-preserved c =
    (search rules, all_more _ _ c.loop-from.invariant.1 (yes _ _ c.row_mirrored.ensures (ap not c.if-not-row_mirrored.false)))

pub returns : goal.returns
unfolding symmetric
returns c =
    all_end _ _ _ c.loop-from.invariant.0 c.loop-from-test.false c.loop-from.invariant.1
