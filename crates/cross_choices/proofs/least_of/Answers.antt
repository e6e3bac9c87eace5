-- `least_of`: before each move, the scan from here on comes to the first least of all.
use mathlib.Core.Path.{refl, sym, ◌∙◌}
use native.Mathlib.Omega.{arith}
use Rattle.cross_choices.specs.Rows.{least_of}
use Rattle.descent.proofs.Loops.{scan_turn, scan_done}
use Rattle.cross_choices.proofs.least_of.Goals as goal

pub loop-j-init : goal.loop-j-init
unfolding least_of
loop-j-init c =
    (omega arith, refl)

pub loop-j-preserved : goal.loop-j-preserved
loop-j-preserved c =
    (omega (arith, c.loop-j-test.true), scan_turn _ _ _ _ _ c.loop-j-test.true c.lesser-least.ensures ∙ c.loop-j.invariant.1)

pub returns : goal.returns
returns c =
    sym (scan_done _ _ _ _ c.loop-j-test.false) ∙ c.loop-j.invariant.1
