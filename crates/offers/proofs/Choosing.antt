-- One visit offered to one list at all its places comes to the definition's scan over these candidates, or changes nothing where the list has no room.
-- Assumes nothing.
use mathlib.Core.Path.{◌≡◌, refl, sym, ◌∙◌}
use mathlib.Core.Bool.{Bool, true, false, ◌&&◌}
use mathlib.Core.List.{List}
use Prim.Native.Nat.{ℕ, suc, ◌+◌, ◌≤◌, ◌<◌}
use native.Mathlib.Omega.{arith}
use borrow.Author.Tests.{le-leb, leb-true}
use lib.Dec.{leb}
use lib.IntN.{ℤ}
use lib.ListN.{length, get_or}
use lib.Ieee.{Float}
use Rattle.numbers.specs.Operations.{◌⊕◌}
use Rattle.day.specs.Matrix.{leg}
use Rattle.edits.specs.Total.{total}
use Rattle.lists.specs.Table.{lists, list_of}
use Rattle.lists.proofs.Tables.{at_lists, length_list}
use Rattle.labels.specs.Columns.{Columns}
use Rattle.descent.specs.Order.{range}
use Rattle.descent.specs.Across.{at, Relocation}
use Rattle.deltas.specs.Deltas.{stop_at, insertion_delta, removal_delta, relocate_delta}
use Rattle.deltas.proofs.Stops.{get_or_any}
use Rattle.engine.specs.Engine.{passing}
use Rattle.loads.specs.Loads.{boxes_of, Held}
use Rattle.edits.specs.Edits.{inserted}
use Rattle.places.specs.Places.{Prepared, best_among}
use Rattle.places.specs.declared.Setup.{Setup}
use Rattle.edits.proofs.Kept.{total-inserted}
use Rattle.relocations.specs.declared.offer.Offer.{Offer}
use Rattle.relocations.proofs.Scanning.{into_list, Best, Scanned, scanned-refused, scanned_places}
use Rattle.offers.specs.Offers.{search_of, judge_of, terms_of}
use Rattle.pairs.specs.declared.Choice.{Choice}

module _ (c : Columns) (demand : List ℤ) (s : Setup) (visits lengths : List ℕ) where
  -- ---- an offer to a list

  module _ (from position to visit : ℕ) (prepared : Prepared s c) (held : Held c.l visits lengths) (visit-there : position < get_or lengths from 0)
      (is-visit : visit ≡ get_or (list_of visits lengths from) position 0) where
    abbrev X : List ℕ
    X = list_of visits lengths from

    abbrev Y : List ℕ
    Y = list_of visits lengths to

    abbrev move : ℕ → Relocation
    move place = record { from = from; position = position; to = to; place = place }

    -- the receiver, and its load
    receives : (place : ℕ) → inserted (at (lists visits lengths) to) (get_or (at (lists visits lengths) from) position 0) place ≡ inserted Y visit place
    receives place = rw (at_lists visits lengths to, at_lists visits lengths from, is-visit)

    load_after : (place : ℕ) → total (boxes_of demand) (inserted Y visit place) ≡ total (boxes_of demand) Y + boxes_of demand visit
    load_after place = total-inserted (boxes_of demand) Y visit place

    -- whether a candidate passes
    passes_is : (place : ℕ) → (search_of c demand s).passes (lists visits lengths) (move place)
        ≡ (leb (total (boxes_of demand) Y + boxes_of demand visit) s.capacity && true
        && passing s.needed c s.limits s.depot (inserted Y visit place)) && true
    unfolding search_of
    passes_is place = rw (receives place, load_after place, prepared.needed)

    pub no_room : (best : Choice) → Best (terms_of c demand s) (lists visits lengths) best → s.capacity < total (boxes_of demand) Y + boxes_of demand visit
        → Scanned (terms_of c demand s) (lists visits lengths) (into_list (lists visits lengths) from position to) best best
    no_room best b h =
        scanned-refused (terms_of c demand s) (lists visits lengths) from position to best b (λ place. passes_is place ∙ full _ _ (too_much _ _ h))
      where
        too_much : (a b : ℕ) → b < a → leb a b ≡ false
        too_much a b h = go (leb a b) refl
          where
            go : (t : Bool) → leb a b ≡ t → t ≡ false
            go true e = let k = leb-true a b e in absurd (omega arith)
            go false e = refl

        full : (a b : Bool) → a ≡ false → ((a && true && b) && true) ≡ false
        full a b e = rw e

    module _ (removal : Float) (roomy : total (boxes_of demand) Y + boxes_of demand visit ≤ s.capacity)
        (is-removal : removal ≡ removal_delta (leg c.l c.distances) s.depot s.fixed (list_of visits lengths from) position) where
      abbrev offer : Offer
      offer = record { from = from; position = position; to = to; visit = visit; removal = removal }

      passes_there : (place : ℕ) → (search_of c demand s).passes (lists visits lengths) (move place)
          ≡ passing s.needed c s.limits s.depot (inserted Y visit place)
      passes_there place = passes_is place ∙ free _ _ (le-leb _ _ roomy)
        where
          free : (a b : Bool) → a ≡ true → ((a && true && b) && true) ≡ b
          free a true e = rw e
          free a false e = rw e

      delta_is : (place : ℕ) → removal ⊕ insertion_delta (leg c.l c.distances) s.depot s.fixed Y visit place ≡ (judge_of c s).delta (lists visits lengths) (move place)
      unfolding judge_of relocate_delta stop_at
      delta_is place =
          let there : position < length X = rw (length_list visits lengths held.laid.add_up from) visit-there in
          rw (at_lists visits lengths from, at_lists visits lengths to, is-removal, is-visit, get_or_any X position s.depot 0 there)

      pub offered : (best : Choice) → Best (terms_of c demand s) (lists visits lengths) best
          → Scanned (terms_of c demand s) (lists visits lengths) (into_list (lists visits lengths) from position to) best (best_among c s Y offer (range 0 (suc (length Y))) best)
      unfolding best_among
      offered best b =
          rw (at_lists visits lengths to) at
          (scanned_places (terms_of c demand s) (lists visits lengths) offer (insertion_delta (leg c.l c.distances) s.depot s.fixed Y visit)
          (λ place. passing s.needed c s.limits s.depot (inserted Y visit place)) delta_is (λ place. sym (passes_there place)) best b)

  -- in the code's terms: the giver and the receiver as they were lent, the load and the boxes that were counted
  module _ (from position to : ℕ) (prepared : Prepared s c) (held : Held c.l visits lengths) (visit-there : position < get_or lengths from 0)
      (xs ys : List ℕ) (is-giver : xs ≡ list_of visits lengths from) (is-receiver : ys ≡ list_of visits lengths to) (visit load more : ℕ)
      (is-visit : visit ≡ get_or xs position 0) (is-load : load ≡ total (boxes_of demand) ys) (is-more : more ≡ boxes_of demand visit)
      (best : Choice) (b : Best (terms_of c demand s) (lists visits lengths) best) where
    the_visit : get_or xs position 0 ≡ get_or (list_of visits lengths from) position 0
    the_visit = rw is-giver

    the_load : load + more ≡ total (boxes_of demand) (list_of visits lengths to) + boxes_of demand (get_or xs position 0)
    the_load = rw (is-load, is-more, is-visit, is-receiver)

    pub refused_as : s.capacity < load + more → Scanned (terms_of c demand s) (lists visits lengths) (into_list (lists visits lengths) from position to) best best
    refused_as h = no_room from position to (get_or xs position 0) prepared held visit-there the_visit best b (omega (arith, the_load))

    pub offered_as : load + more ≤ s.capacity → (removal : Float) (after : Choice)
        → removal ≡ removal_delta (leg c.l c.distances) s.depot s.fixed xs position
        → after ≡ best_among c s ys (record { from = from; position = position; to = to; visit = get_or xs position 0; removal = removal })
        (range 0 (suc (length ys))) best
        → Scanned (terms_of c demand s) (lists visits lengths) (into_list (lists visits lengths) from position to) best after
    offered_as h removal after is-removal is-after =
        let lower = rw is-giver at is-removal in
        rw (is-after, is-receiver)
        (offered from position to (get_or xs position 0) prepared held visit-there the_visit removal (omega (arith, the_load)) lower best b)
