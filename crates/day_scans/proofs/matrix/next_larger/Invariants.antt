-- `next_larger`: an entry that isn't larger than the largest so far leaves the largest of the rest as it was.
use Prim.Native.Nat.{◌≤◌}
use mathlib.Core.Path.{◌≡◌}
use lib.ListN.{length, drop}
use Rattle.numbers.specs.Total.{largest}
use Rattle.day_scans.proofs.matrix.next_larger.Given as goal

abbrev pub invariant-loop-i : goal.invariant-loop-i
invariant-loop-i l =
    (l.from ≤ l.i) × (l.i ≤ length l.distances) × (largest l.most (drop l.i l.distances) ≡ largest l.most (drop l.from l.distances))
