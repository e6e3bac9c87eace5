-- `turned_legs`: the sum so far and the legs still ahead make the whole piece's.
use mathlib.Core.Path.{◌≡◌}
use Prim.Native.Nat.{◌+◌, ◌≤◌}
use lib.ListN.{get_or}
use lib.Seq.{slice}
use Rattle.day.specs.Legs.{leg_of}
use Rattle.deltas.specs.Changes.{turned_legs, reversal_delta}
use Rattle.deltas_within.proofs.turned_legs.Given as goal

abbrev pub invariant-loop-k : goal.invariant-loop-k
invariant-loop-k l =
    (l.k ≤ l.last) × (turned_legs (leg_of l.matrix) l.sum (get_or l.list l.k 0) (slice (l.k + 1) (l.last + 1) l.list)
    ≡ reversal_delta (leg_of l.matrix) (slice l.first (l.last + 1) l.list))
