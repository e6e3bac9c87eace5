-- `is_symmetric`: the rows passed are mirrored.
use Prim.Native.Nat.{◌≤◌}
use mathlib.Core.Path.{◌≡◌}
use mathlib.Core.Bool.{true}
use Rattle.tests.specs.All.{all_below}
use Rattle.day.specs.Matrix.{mirrored}
use Rattle.day_scans.proofs.matrix.is_symmetric.Given as goal

abbrev pub invariant-loop-from : goal.invariant-loop-from
invariant-loop-from l =
    (l.from ≤ l.distances.size) × (all_below (mirrored l.distances.size l.distances.entries.now) l.from ≡ true)
