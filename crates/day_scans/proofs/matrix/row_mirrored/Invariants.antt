-- `row_mirrored`: the entries passed equal their mirrors.
use Prim.Native.Nat.{◌≤◌}
use mathlib.Core.Path.{◌≡◌}
use mathlib.Core.Bool.{true}
use lib.Ieee.{eq}
use Rattle.tests.specs.All.{all_below}
use Rattle.day.specs.Legs.{leg_of}
use Rattle.day_scans.proofs.matrix.row_mirrored.Given as goal

abbrev pub invariant-loop-to : goal.invariant-loop-to
invariant-loop-to l =
    (l.to ≤ l.from) × (all_below (λ k. eq (leg_of l.distances l.from k) (leg_of l.distances k l.from)) l.to ≡ true)
