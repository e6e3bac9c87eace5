-- `past_smaller`: four entries of which none is larger than the largest so far leave the largest of the rest as it was.
use borrow.Author.Rules.{rules}
use mathlib.Core.Path.{◌∙◌}
use native.Mathlib.Omega.{arith}
use Rattle.tests.specs.All.{yes}
use Rattle.day.specs.Matrix.{largest_passed_four}
use mathlib.Core.Path.{ap}
use mathlib.Core.Bool.{not}
use Rattle.day_scans.proofs.matrix.past_smaller.Goals as goal

pub loop-i-preserved : goal.loop-i-preserved
loop-i-preserved c = (
  search rules,
  search rules,
  largest_passed_four _ c.loop-i.i _ (omega (arith, c.loop-i-test.true, c.loop-i.invariant.1))
      (yes _ _ c.four_smaller.ensures (ap not c.if-not-four_smaller.false)) ∙ c.loop-i.invariant.2,
)
