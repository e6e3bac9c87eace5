-- `offer_visit` case by case: there is no room, the giver has no price without the visit, or it is offered. Each is the definition's own case. Assumes nothing.
use mathlib.Core.Path.{◌≡◌, refl, sym, ap, ◌∙◌}
use mathlib.Core.Bool.{Bool, true, false, ◌&&◌}
use mathlib.Core.List.{List}
use Prim.Native.Nat.{ℕ, suc, ◌+◌, ◌≤◌, ◌<◌}
use native.Mathlib.Omega.{arith}
use borrow.Author.Tests.{le-leb, lt-leb}
use lib.Dec.{leb, eqb}
use lib.IntN.{ℤ}
use lib.ListN.{length, get_or}
use lib.Ieee.{Float}
use lib.Ieee.Scale.{finite}
use Rattle.tests.specs.All.{and_right}
use Rattle.tests.specs.Pick.{picked, other}
use Rattle.labels.specs.Columns.{Columns}
use Rattle.descent.specs.Order.{range}
use Rattle.descent.proofs.Members.{and_both}
use Rattle.deltas.specs.Changes.{fixed_if}
use Rattle.loads.specs.Loads.{boxes_of}
use Rattle.soft_places.specs.Prices.{giving_delta}
use Rattle.soft_places.specs.Places.{price_of, best_among}
use Rattle.soft_places.specs.declared.Setup.{Setup}
use Rattle.soft_visit_offers.specs.Offer.{best_offer}
use Rattle.soft_visit_offers.specs.declared.Pair.{Pair}
use Rattle.pairs.specs.declared.Choice.{Choice}

module _ (c : Columns) (demand : List ℤ) (s : Setup) (X Y : List ℕ) (pair : Pair) (best : Choice) (position : ℕ) where
  -- the giver's visit is counted: there is no room, the giver has no price without it, or it is offered
  module _ (visit more : ℕ) (is-visit : visit ≡ get_or X position 0) (is-more : more ≡ boxes_of demand visit) where
    the_load : pair.load + more ≡ pair.load + boxes_of demand (get_or X position 0)
    the_load = rw (is-more, is-visit)

    pub refused_as : s.capacity < pair.load + more → best ≡ best_offer c demand s X Y pair position best
    unfolding best_offer
    refused_as h =
        let full = lt-leb (pair.load + boxes_of demand (get_or X position 0)) s.capacity (omega (arith, the_load)) in
        other _ _ _ _ (ap (λ (b : Bool). b && finite (giving_delta (price_of c s) s.fixed X position)) full) refl

    module _ (giving : Float) (is-giving : giving ≡ giving_delta (price_of c s) s.fixed X position) (told : Bool) (asked : told ≡ finite giving) where
      pub fails_as : told ≡ false → best ≡ best_offer c demand s X Y pair position best
      unfolding best_offer
      fails_as e =
          other _ _ _ _ (and_right (leb (pair.load + boxes_of demand (get_or X position 0)) s.capacity) _ (ap finite (sym is-giving) ∙ sym asked ∙ e)) refl

      pub offered_as : told ≡ true → pair.load + more ≤ s.capacity → (paid : Float) (after : Choice) → paid ≡ fixed_if (eqb (length Y) 0) s.fixed
          → after ≡ best_among (price_of c s) pair.old_to paid Y
          (record { from = pair.from; position = position; to = pair.to; visit = get_or X position 0; removal = giving })
          (range 0 (suc (length Y))) best
          → after ≡ best_offer c demand s X Y pair position best
      unfolding best_offer
      offered_as e h paid after is-paid is-after =
          let fits = le-leb (pair.load + boxes_of demand (get_or X position 0)) s.capacity (omega (arith, the_load)) in
          let given : finite (giving_delta (price_of c s) s.fixed X position) ≡ true = ap finite (sym is-giving) ∙ sym asked ∙ e in
          picked _ _ _ _ (and_both (leb (pair.load + boxes_of demand (get_or X position 0)) s.capacity) _ fits given)
          (is-after ∙ rw (is-giving, is-paid))
