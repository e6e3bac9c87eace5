-- The visits of a list offered to another one after another, and two lists with a price or without. Assumes nothing.
use mathlib.Core.Path.{◌≡◌, sym, ◌∙◌}
use mathlib.Core.Bool.{Bool, true, false, ◌&&◌}
use mathlib.Core.List.{List}
use Prim.Native.Nat.{ℕ, ◌+◌, ◌≤◌, ◌<◌}
use lib.IntN.{ℤ}
use lib.ListN.{length}
use lib.Ieee.{Float}
use lib.Ieee.Scale.{finite}
use Rattle.tests.specs.Pick.{picked, other}
use Rattle.edits.specs.Total.{total}
use Rattle.labels.specs.Columns.{Columns}
use Rattle.descent.specs.Order.{range}
use Rattle.relocations.proofs.Scanning.{after_turn, after_end}
use Rattle.loads.specs.Loads.{boxes_of}
use Rattle.soft_places.specs.Places.{price_of}
use Rattle.soft_places.specs.declared.Setup.{Setup}
use Rattle.soft_visit_offers.specs.Offer.{best_offer}
use Rattle.soft_visit_offers.specs.declared.Pair.{Pair}
use Rattle.soft_offers.specs.Offers.{bound, best_offers, best_priced}
use Rattle.pairs.specs.Pairs.{nothing}
use Rattle.pairs.specs.declared.Choice.{Choice}

-- the visits from here on: one is offered, and none is left
module _ (c : Columns) (demand : List ℤ) (s : Setup) (X Y : List ℕ) (pair : Pair) (best : Choice) (position : ℕ) where
  pub offers_turn : position < length X → best_offers c demand s X Y pair (range (position + 1) (length X)) (best_offer c demand s X Y pair position best)
      ≡ best_offers c demand s X Y pair (range position (length X)) best
  unfolding best_offers
  offers_turn h = after_turn _ position (length X) best h

  pub offers_end : length X ≤ position → best_offers c demand s X Y pair (range position (length X)) best ≡ best
  unfolding best_offers
  offers_end h = after_end _ position (length X) best h

-- two lists as they were priced and counted: one has no price, or both have one
module _ (c : Columns) (demand : List ℤ) (s : Setup) (X Y : List ℕ) (from to : ℕ) (x y : Float) (is_x : x ≡ price_of c s X) (is_y : y ≡ price_of c s Y)
    (a b told : Bool) (is-a : a ≡ finite x) (is_b : b ≡ finite y) (asked : told ≡ (a && b)) (best : Choice) where
  the_test : told ≡ (finite (price_of c s X) && finite (price_of c s Y))
  the_test = rw (asked, is-a, is_b, is_x, is_y)

  pub unpriced_as : told ≡ false → best ≡ nothing (bound s) → best ≡ best_priced c demand s X Y from to
  unfolding best_priced
  unpriced_as e f = other _ _ _ _ (sym the_test ∙ e) f

  pub priced_as : told ≡ true → (load : ℕ) → load ≡ total (boxes_of demand) Y
      → best ≡ best_offers c demand s X Y (record { from = from; to = to; old_from = x; old_to = y; load = load }) (range 0 (length X)) (nothing (bound s))
      → best ≡ best_priced c demand s X Y from to
  unfolding best_priced
  priced_as e load f g = picked _ _ _ _ (sym the_test ∙ e) (g ∙ rw (is_x, is_y, f))
