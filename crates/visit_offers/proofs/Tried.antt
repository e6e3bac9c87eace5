-- `try_visit` and `offer_visit` case by case: no room, ruled out, or every place; what is known is read at a cell and written there. Each is the definition's
-- own case. Assumes nothing.
use mathlib.Core.Path.{◌≡◌, refl, ap₂, ◌∙◌}
use mathlib.Core.Bool.{Bool, true, false}
use mathlib.Core.List.{List}
use Prim.Native.Nat.{ℕ, suc, ◌+◌, ◌≤◌, ◌<◌}
use native.Mathlib.Omega.{arith}
use borrow.Author.Tests.{lt-ltb, le-ltb}
use lib.Dec.{ltb}
use lib.IntN.{ℤ}
use lib.ListN.{length, get_or}
use lib.Ieee.{Float}
use Rattle.tests.specs.Pick.{picked, other}
use Rattle.day.specs.Matrix.{leg}
use Rattle.labels.specs.Columns.{Columns}
use Rattle.descent.specs.Order.{range}
use Rattle.deltas.specs.Deltas.{removal_delta}
use Rattle.loads.specs.Loads.{boxes_of}
use Rattle.pairs.specs.declared.Choice.{Choice}
use Rattle.insertions.specs.Cache.{known_at, Noted, least_below}
use Rattle.insertions.specs.declared.Least.{Least}
use Rattle.insertions.specs.declared.Insertions.{Insertions}
use Rattle.places.specs.Places.{ruled_out, best_among}
use Rattle.places.specs.declared.Setup.{Setup}
use Rattle.places.specs.declared.Tried.{Tried}
use Rattle.visit_offers.specs.Tried.{cost_of, offer_of, tried}

module _ (c : Columns) (demand : List ℤ) (s : Setup) (X Y : List ℕ) (load from position to : ℕ) (best : Choice) (known : Least)
    (visit more : ℕ) (is-visit : visit ≡ get_or X position 0) (is-more : more ≡ boxes_of demand visit) where
  the_load : load + more ≡ load + boxes_of demand (get_or X position 0)
  the_load = rw (is-more, is-visit)

  pub tried_full : s.capacity < load + more → record { best = best; least = known } ≡ tried c demand s X Y load from position to best known
  unfolding tried
  tried_full h = picked _ _ _ _ (lt-ltb s.capacity (load + boxes_of demand (get_or X position 0)) (omega (arith, the_load))) refl

  module _ (roomy : load + more ≤ s.capacity) (removal : Float) (ruled : Bool)
      (is-removal : removal ≡ removal_delta (leg c.l c.distances) s.depot s.fixed X position)
      (is-ruled : ruled ≡ ruled_out s.pruning s.floor removal known.figure) where
    room : ltb s.capacity (load + boxes_of demand (get_or X position 0)) ≡ false
    room = le-ltb s.capacity (load + boxes_of demand (get_or X position 0)) (omega (arith, the_load))

    the_rule : ruled_out s.pruning s.floor (removal_delta (leg c.l c.distances) s.depot s.fixed X position) known.figure ≡ ruled
    the_rule = rw (is-ruled, is-removal)

    pub tried_ruled : ruled ≡ true → record { best = best; least = known } ≡ tried c demand s X Y load from position to best known
    unfolding tried
    tried_ruled e = other _ _ _ _ room (picked _ _ _ _ (the_rule ∙ e) refl)

    pub tried_places : ruled ≡ false → (t : Tried)
        → t.best ≡ best_among c s Y (record { from = from; position = position; to = to; visit = get_or X position 0; removal = removal })
        (range 0 (suc (length Y))) best
        → t.least ≡ least_below (cost_of c s Y (get_or X position 0)) (suc (length Y)) → t ≡ tried c demand s X Y load from position to best known
    unfolding tried
    tried_places e t is-best is-least = other _ _ _ _ room (other _ _ _ _ (the_rule ∙ e) whole)
      where
        whole : t ≡ record {
          best = best_among c s Y (offer_of c s X from position to) (range 0 (suc (length Y))) best;
          least = least_below (cost_of c s Y (get_or X position 0)) (suc (length Y));
        }
        whole =
            let one : t.best ≡ best_among c s Y (offer_of c s X from position to) (range 0 (suc (length Y))) best = is-best ∙ rw is-removal in
            ap₂ (λ (b : Choice) (l : Least). record { best = b; least = l }) one is-least

-- what is known is read, and what is known then is noted
pub noted_as : (f : Least → Tried) (old new : Insertions) (read visit to : ℕ) (known : Least) (t : Tried) → read ≡ visit → known ≡ known_at old read to
    → t ≡ f known → Noted read to t.least old new
    → let after = f (known_at old visit to) in (t.best ≡ after.best) × Noted visit to after.least old new
noted_as f old new read visit to known t e k h w = (rw (h, k, e), rw (h, k, e) at w)
