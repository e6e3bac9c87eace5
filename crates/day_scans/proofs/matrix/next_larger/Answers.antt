-- `next_larger`: an entry that isn't larger than the largest so far leaves the largest of the rest as it was.
use Rattle.std.proofs.Common.{rules}
use mathlib.Core.Path.{◌∙◌}
use Rattle.day.specs.Matrix.{largest_passed}
use Rattle.day_scans.proofs.matrix.next_larger.Goals as goal

pub loop-i-preserved : goal.loop-i-preserved
loop-i-preserved c =
    (search rules, search rules, largest_passed _ _ _ c.loop-i-test.true c.if-most-distances.false ∙ c.loop-i.invariant.2)
