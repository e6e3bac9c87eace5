-- `best_place`: before each place, the best among the places from here on is the best among all; the front of the buffer is the list with the visit at this
-- place, and behind the list's head it is what is priced.
use mathlib.Core.Path.{◌≡◌}
use Prim.Native.Nat.{suc, ◌-◌, ◌≤◌}
use lib.ListN.{length, take}
use Rattle.descent.specs.Order.{range}
use Rattle.edits.specs.Edits.{inserted}
use Rattle.soft_places.specs.Places.{DrivenBy, price_of, best_among}
use Rattle.labels.specs.Lent.{lent}
use Rattle.soft_places.proofs.best_place.Given as goal

abbrev pub invariant-loop-place : goal.invariant-loop-place
invariant-loop-place l =
    let day = lent l.columns in
    (best_among (price_of day l.setup) l.old l.paid l.list l.offer (range l.place (suc (length l.list))) l.after
    ≡ best_among (price_of day l.setup) l.old l.paid l.list l.offer (range 0 (suc (length l.list))) l.initial.after)
    × (take l.end l.buffer ≡ inserted l.list l.offer.visit l.place) × (l.place ≤ length l.list) × (length l.buffer ≡ length l.initial.buffer) × DrivenBy day l.setup l.list l.head

abbrev pub decreases-loop-place : goal.decreases-loop-place
decreases-loop-place l =
    length l.list - l.place
