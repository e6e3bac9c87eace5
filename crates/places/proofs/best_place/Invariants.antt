-- `best_place`: before each place, the best among the places from here on is the best among all, and the least so far is the least of those passed.
use mathlib.Core.Path.{◌≡◌}
use Prim.Native.Nat.{ℕ, suc, ◌-◌, ◌≤◌}
use lib.ListN.{length}
use Rattle.day.specs.Matrix.{leg}
use Rattle.descent.specs.Order.{range}
use Rattle.deltas.specs.Deltas.{insertion_delta}
use Rattle.insertions.specs.Cache.{least_below}
use Rattle.places.specs.Places.{best_among}
use Rattle.labels.specs.Lent.{lent}
use Rattle.places.proofs.best_place.Given as goal

abbrev pub invariant-loop-place : goal.invariant-loop-place
invariant-loop-place l =
    let cost : ℕ → _ = insertion_delta (leg l.columns.locations l.columns.distances.now) l.setup.depot l.setup.fixed l.list l.offer.visit in
    (best_among (lent l.columns) l.setup l.list l.offer (range l.place-counter (suc (length l.list))) l.after
    ≡ best_among (lent l.columns) l.setup l.list l.offer (range 0 (suc (length l.list))) l.initial.after)
    × (l.least ≡ least_below cost l.place-counter) × (l.place-counter ≤ suc (length l.list))
