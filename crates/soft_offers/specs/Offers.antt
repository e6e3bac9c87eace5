-- The search of a pair of lists as the code goes about it: the candidates by visit, and the best so far.
-- For the contracts of src/ and of `soft_relocate`; the engine's own search and judging are in soft_places/specs/Prices.antt. Assumes nothing.
use Rattle.std.specs.Prelude.{cond, ◌&&◌, List, [], ◌∷◌, ℕ, ℤ, length, Float}
use Rattle.std.specs.Float.Ieee.{neg}
use Rattle.std.specs.Float.Ieee.Scale.{finite}
use Rattle.edits.specs.Total.{total}
use Rattle.labels.specs.Columns.{Columns}
use Rattle.descent.specs.Order.{range}
use Rattle.descent.specs.Search.{Search, Judge}
use Rattle.descent.specs.Across.{Relocation}
use Rattle.pairs.specs.Pairs.{nothing}
use Rattle.relocations.specs.Relocations.{Terms}
use Rattle.relocations.specs.Offers.{best_after}
use Rattle.pairs.specs.declared.Choice.{Choice}
use Rattle.loads.specs.Loads.{boxes_of, measure_of}
use Rattle.soft_places.specs.Prices.{soft_relocate_search, soft_relocate_judge}
use Rattle.soft_places.specs.Places.{price_of}
use Rattle.soft_places.specs.declared.Setup.{Setup}
use Rattle.soft_visit_offers.specs.Offer.{best_offer}
use Rattle.soft_visit_offers.specs.declared.Pair.{Pair}

-- ---- the engine's search and judging

-- the search of the definition, with the van's numbers
unfoldable pub search_of : Columns → List ℤ → Setup → Search (List (List ℕ)) Unit Relocation
search_of c demand s = soft_relocate_search (price_of c s) s.fixed (measure_of demand s.capacity ∷ [])

-- and its judging
unfoldable pub judge_of : Columns → Setup → Judge (List (List ℕ)) Relocation Float
judge_of c s = soft_relocate_judge (price_of c s) s.fixed s.floor

-- minus the floor
abbrev pub bound : Setup → Float
bound s = neg s.floor

-- its terms, for crate `relocations`
abbrev pub terms_of : Columns → List ℤ → Setup → Terms
terms_of c demand s = record { search = search_of c demand s; judge = judge_of c s; bound = bound s }

-- ---- a pair of lists

module _ (c : Columns) (demand : List ℤ) (s : Setup) (X Y : List ℕ) (pair : Pair) where
  -- the best after the offers of some visits
  unfoldable pub best_offers : List ℕ → Choice → Choice
  best_offers = best_after λ best position. best_offer c demand s X Y pair position best

-- the best move of two lists: none where one of them has no price
module _ (c : Columns) (demand : List ℤ) (s : Setup) (X Y : List ℕ) (from to : ℕ) where
  abbrev pub pair_of : Pair
  pair_of = record { from = from; to = to; old_from = price_of c s X; old_to = price_of c s Y; load = total (boxes_of demand) Y }

  unfoldable pub best_priced : Choice
  best_priced =
      cond (finite (price_of c s X) && finite (price_of c s Y)) (best_offers c demand s X Y pair_of (range 0 (length X)) (nothing (bound s))) (nothing (bound s))
