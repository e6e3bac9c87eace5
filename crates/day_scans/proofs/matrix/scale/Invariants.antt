-- `scale`: the largest so far and the rest of the table make the largest of all, also where entries are passed over.
use Prim.Native.Nat.{◌-◌, ◌≤◌}
use mathlib.Core.Path.{◌≡◌}
use lib.ListN.{length, drop}
use Rattle.numbers.specs.Total.{largest}
use Rattle.day_scans.proofs.matrix.scale.Given as goal

abbrev pub invariant-loop-i : goal.invariant-loop-i
invariant-loop-i l =
    (l.i ≤ length l.distances) × (largest l.most (drop l.i l.distances) ≡ largest l.initial.most l.distances)

abbrev pub decreases-loop-i : goal.decreases-loop-i
decreases-loop-i l =
    length l.distances - l.i
