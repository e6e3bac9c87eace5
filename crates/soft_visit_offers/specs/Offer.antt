-- One visit of a list offered to another, where a window is soft: what is asked and known of the two lists, and the best after the offer. For the contracts of
-- src/ and of `soft_offers`. Assumes nothing.
use Rattle.std.specs.Prelude.{◌≡◌, Bool, true, cond, ◌&&◌, List, ℕ, suc, ◌+◌, ◌<◌, leb, eqb, ℤ, length, get_or}
use Rattle.std.specs.Float.Ieee.Scale.{finite}
use Rattle.edits.specs.Total.{total}
use Rattle.labels.specs.Columns.{Columns, Visits}
use Rattle.deltas.specs.Changes.{fixed_if}
use Rattle.descent.specs.Order.{range}
use Rattle.pairs.specs.declared.Choice.{Choice}
use Rattle.loads.specs.Loads.{boxes_of}
use Rattle.soft_places.specs.Prices.{giving_delta}
use Rattle.soft_places.specs.Places.{price_of, best_among}
use Rattle.soft_places.specs.declared.Setup.{Setup}
use Rattle.relocations.specs.declared.offer.Offer.{Offer}
use Rattle.soft_visit_offers.specs.declared.Pair.{Pair}

-- two lists of the tables, the second with room for one visit more
pub record TwoOf (l : ℕ) (X Y : List ℕ) : Type 0 where
  pub gives : Visits l X
  pub takes : Visits l Y
  pub room_there : length Y < 63

-- what is known of the pair: both are priced, and the receiver's boxes are counted
pub record Known (c : Columns) (demand : List ℤ) (s : Setup) (X Y : List ℕ) (pair : Pair) : Type 0 where
  pub price_from : pair.old_from ≡ price_of c s X
  pub price_to : pair.old_to ≡ price_of c s Y
  pub finite_from : finite pair.old_from ≡ true
  pub finite_to : finite pair.old_to ≡ true
  pub load : pair.load ≡ total (boxes_of demand) Y

module _ (c : Columns) (demand : List ℤ) (s : Setup) (X Y : List ℕ) (pair : Pair) where
  -- a visit, offered
  abbrev pub offer_of : ℕ → Offer
  offer_of position = record {
    from = pair.from;
    position = position;
    to = pair.to;
    visit = get_or X position 0;
    removal = giving_delta (price_of c s) s.fixed X position;
  }

  -- whether the receiver has room for it, and the giver a price without it
  abbrev pub may_go : ℕ → Bool
  may_go position =
      leb (pair.load + boxes_of demand (get_or X position 0)) s.capacity && finite (giving_delta (price_of c s) s.fixed X position)

  -- the best after an offer of one visit
  unfoldable pub best_offer : ℕ → Choice → Choice
  best_offer position best =
      cond (may_go position)
      (best_among (price_of c s) pair.old_to (fixed_if (eqb (length Y) 0) s.fixed) Y (offer_of position) (range 0 (suc (length Y))) best) best
