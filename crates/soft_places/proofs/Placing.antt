-- What a visit taken out changes, and an offer at one place more and at all places of a list. Assumes nothing.
use mathlib.Core.Path.{◌≡◌, refl, sym}
use mathlib.Core.Bool.{Bool, true, false}
use mathlib.Core.List.{List}
use Prim.Native.Nat.{ℕ, suc, ◌+◌, ◌-◌, ◌≤◌, ◌<◌}
use native.Mathlib.Omega.{arith}
use borrow.Author.Tests.{eqb-true, eqb-false, eq-eqb, ne_eqb}
use lib.Dec.{eqb}
use lib.ListN.{length}
use lib.Ieee.{Float, lt}
use Rattle.numbers.specs.Operations.{◌⊕◌, ◌⊖◌}
use Rattle.descent.specs.Order.{range}
use Rattle.deltas.specs.Changes.{fixed_if}
use Rattle.edits.specs.Edits.{without, inserted}
use Rattle.soft_places.specs.Prices.{giving_delta}
use Rattle.soft_places.specs.Places.{best_among}
use Rattle.relocations.specs.Offers.{better}
use Rattle.relocations.specs.declared.offer.Offer.{Offer}
use Rattle.relocations.proofs.Scanning.{better_same, after_turn, after_end}
use Rattle.edits.proofs.Kept.{length_without}
use Rattle.pairs.specs.declared.Choice.{Choice}

-- a list of one visit is empty without it
emptied : (n m : ℕ) → 0 < n → m ≡ n - 1 → eqb n 1 ≡ eqb m 0
emptied n m h e = go (eqb n 1) refl
  where
    go : (b : Bool) → eqb n 1 ≡ b → b ≡ eqb m 0
    go true t = let one = eqb-true n 1 t in sym (eq-eqb m 0 (omega arith))
    go false t = sym (ne_eqb m 0 (λ none. eqb-false n 1 t (omega arith)))

-- what the giver's change is made of
pub giving_is : (price : List ℕ → Float) (fixed : Float) (list : List ℕ) (position : ℕ) (new old saved : Float) → position < length list
    → new ≡ price (without list position) → old ≡ price list → saved ≡ fixed_if (eqb (length list) 1) fixed
    → new ⊖ old ⊖ saved ≡ giving_delta price fixed list position
unfolding giving_delta
giving_is price fixed list position new old saved h f g k =
    rw (f, g, k, emptied (length list) (length (without list position)) (omega arith) (length_without list position h))

-- the places from here on: one is tried, and none is left
module _ (price : List ℕ → Float) (old paid : Float) (list : List ℕ) (offer : Offer) (best : Choice) (place : ℕ) where
  pub among_turn : (new : Float) (passed : Bool) (after : Choice) → place ≤ length list → new ≡ price (inserted list offer.visit place)
      → (lt (offer.removal ⊕ (new ⊖ old ⊕ paid)) best.delta ≡ true → passed ≡ true) → after ≡ better offer (new ⊖ old ⊕ paid) passed best place
      → best_among price old paid list offer (range (place + 1) (suc (length list))) after
      ≡ best_among price old paid list offer (range place (suc (length list))) best
  unfolding best_among
  among_turn new passed after h e asked is =
      rw (is, better_same offer (new ⊖ old ⊕ paid) passed true best place asked, e) (after_turn _ place (suc (length list)) best (omega arith))

  pub among_end : length list < place → best_among price old paid list offer (range place (suc (length list))) best ≡ best
  unfolding best_among
  among_end h = after_end _ place (suc (length list)) best h
