-- One visit offered to one list at all its places comes to the scan over these candidates, or changes nothing where they may not be taken: whether a
-- candidate passes doesn't depend on the place. And the visits of a list, one after another, come to the best of a pair. Assumes nothing.
use mathlib.Core.Path.{◌≡◌, refl, sym, ap, ◌∙◌}
use mathlib.Core.Logic.{◌≢◌}
use mathlib.Core.Bool.{Bool, true, false, cond, ◌&&◌}
use mathlib.Core.List.{List, [], ◌∷◌, map}
use Prim.Native.Nat.{ℕ, suc, ◌+◌, ◌-◌}
use lib.Dec.{leb, eqb}
use lib.IntN.{ℤ}
use lib.ListN.{length, get_or}
use lib.Ieee.{Float}
use Rattle.numbers.specs.Operations.{◌⊕◌, ◌⊖◌}
use Rattle.deltas.specs.Changes.{fixed_if}
use lib.Ieee.Scale.{finite}
use Rattle.tests.specs.All.{and_right}
use Rattle.edits.specs.Total.{total}
use Rattle.lists.specs.Table.{lists, list_of}
use Rattle.lists.proofs.Tables.{at_lists}
use Rattle.labels.specs.Columns.{Columns}
use Rattle.descent.specs.Order.{◌∈◌, range}
use Rattle.descent.specs.Permitted.{room}
use Rattle.descent.specs.Across.{at, Relocation}
use Rattle.descent.proofs.Members.{map_in, each_in, and_parts}
use Rattle.pairs.specs.Pairs.{across, move_of, nothing, IsBest}
use Rattle.pairs.specs.declared.Choice.{Choice}
use Rattle.pairs.proofs.Taken.{best-across, best_refused}
use Rattle.loads.specs.Loads.{boxes_of, measure_of}
use Rattle.edits.specs.Edits.{inserted}
use Rattle.soft_places.specs.Prices.{receiving_delta, soft_delta, priced}
use Rattle.soft_places.specs.Places.{price_of, best_among}
use Rattle.soft_places.specs.declared.Setup.{Setup}
use Rattle.relocations.specs.declared.offer.Offer.{Offer}
use Rattle.edits.proofs.Kept.{total-inserted}
use Rattle.soft_visit_offers.specs.Offer.{Known, offer_of, may_go, best_offer}
use Rattle.soft_visit_offers.specs.declared.Pair.{Pair}
use Rattle.soft_offers.specs.Offers.{search_of, judge_of, bound, terms_of, best_offers, pair_of, best_priced}
use Rattle.relocations.specs.Offers.{better, best_after}
use Rattle.relocations.proofs.Scanning.{into_list, Best, Scanned, none_yet, scanned-refused, scanned_places, scanned_visits}

module _ (c : Columns) (demand : List ℤ) (s : Setup) (visits lengths : List ℕ) where
  abbrev ls : List (List ℕ)
  ls = lists visits lengths

  -- what a relocation changes, and whether it passes
  abbrev pub delta_of : Relocation → Float
  delta_of = (judge_of c s).delta (lists visits lengths)

  abbrev pub pass_of : Relocation → Bool
  pass_of = (search_of c demand s).passes (lists visits lengths)

  -- ---- a pair of lists

  -- a list that has no price
  unpriced : (X Y : List ℕ) (position : ℕ) → (finite (price_of c s X) && finite (price_of c s Y)) ≡ false → priced (price_of c s) s.fixed X Y position ≡ false
  unfolding priced
  unpriced X Y position e = rw e

  no_price_at : (from to position place : ℕ) → (finite (price_of c s (list_of visits lengths from)) && finite (price_of c s (list_of visits lengths to))) ≡ false
      → pass_of (record { from = from; position = position; to = to; place = place }) ≡ false
  unfolding search_of
  no_price_at from to position place e =
      and_right (room (measure_of demand s.capacity ∷ []) (inserted (at ls to) (get_or (at ls from) position 0) place)) _
      (rw (at_lists visits lengths from, at_lists visits lengths to) (unpriced (list_of visits lengths from) (list_of visits lengths to) position e))

  no_price : (from to : ℕ) → (finite (price_of c s (list_of visits lengths from)) && finite (price_of c s (list_of visits lengths to))) ≡ false → from ≢ to
      → IsBest delta_of pass_of (bound s) ls from to (nothing (bound s))
  no_price from to e apart = best_refused delta_of pass_of (bound s) ls from to apart fails
    where
      fails : (m : Relocation) → m ∈ across ls from to → pass_of m ≡ false
      fails m i =
          let row = each_in
          (λ position. map (λ place. record { from = from; position = position; to = to; place = place }) (range 0 (suc (length (at ls to)))))
          (range 0 (length (at ls from))) m i in
          let one = map_in (λ place. record { from = from; position = row.0; to = to; place = place }) (range 0 (suc (length (at ls to)))) m row.2 in
          ap (λ (m : Relocation). pass_of m) (sym one.2) ∙ no_price_at from to row.0 one.0 e

  -- ---- an offer to a list

  module _ (pair : Pair) where
    abbrev X : List ℕ
    X = list_of visits lengths pair.from

    abbrev Y : List ℕ
    Y = list_of visits lengths pair.to

    module _ (known : Known c demand s X Y pair) where
      module _ (position : ℕ) where
        abbrev visit : ℕ
        visit = get_or X position 0

        abbrev offer : Offer
        offer = offer_of c demand s X Y pair position

        abbrev move : ℕ → Relocation
        move place = record { from = pair.from; position = position; to = pair.to; place = place }

        -- the receiver
        receives : (place : ℕ) → inserted (at ls pair.to) (get_or (at ls pair.from) position 0) place ≡ inserted Y visit place
        receives place = rw (at_lists visits lengths pair.to, at_lists visits lengths pair.from)

        load_after : (place : ℕ) → total (boxes_of demand) (inserted Y visit place) ≡ pair.load + boxes_of demand visit
        load_after place = rw known.load (total-inserted (boxes_of demand) Y visit place)

        -- whether a candidate passes: the place makes no difference
        passes_is : (place : ℕ) → pass_of (move place) ≡ may_go c demand s X Y pair position
        unfolding search_of priced
        passes_is place =
            rw (
              receives place,
              load_after place,
              at_lists visits lengths pair.from,
              at_lists visits lengths pair.to,
              ← known.price_from,
              ← known.price_to,
              known.finite_from,
              known.finite_to,
            )
            (alone (leb (pair.load + boxes_of demand visit) s.capacity) _)
          where
            alone : (a b : Bool) → ((a && true) && b) ≡ (a && b)
            alone true b = refl
            alone false b = refl

        delta_is : (place : ℕ) → offer.removal ⊕ (price_of c s (inserted Y visit place) ⊖ pair.old_to ⊕ fixed_if (eqb (length Y) 0) s.fixed) ≡ delta_of (move place)
        unfolding judge_of soft_delta receiving_delta
        delta_is place = rw (at_lists visits lengths pair.from, at_lists visits lengths pair.to, known.price_to)

        -- an offer at all places
        offered : (best : Choice) → Best (terms_of c demand s) (lists visits lengths) best
            → Scanned (terms_of c demand s) (lists visits lengths) (into_list ls pair.from position pair.to) best (best_offer c demand s X Y pair position best)
        unfolding best_offer best_among
        offered best b = go (may_go c demand s X Y pair position) refl
          where
            step : Choice → ℕ → Choice
            step best place = better offer (price_of c s (inserted Y visit place) ⊖ pair.old_to ⊕ fixed_if (eqb (length Y) 0) s.fixed) true best place

            go : (t : Bool) → may_go c demand s X Y pair position ≡ t
                → Scanned (terms_of c demand s) (lists visits lengths) (into_list ls pair.from position pair.to) best
                (cond t (best_after step (range 0 (suc (length Y))) best) best)
            go true e =
                rw (at_lists visits lengths pair.to) at
                (scanned_places (terms_of c demand s) (lists visits lengths) offer (λ place. price_of c s (inserted Y visit place) ⊖ pair.old_to ⊕ fixed_if (eqb (length Y) 0) s.fixed)
                (λ place. true) delta_is (λ place. sym (passes_is place ∙ e)) best b)
            go false e = scanned-refused (terms_of c demand s) (lists visits lengths) pair.from position pair.to best b (λ place. passes_is place ∙ e)

      -- from nothing on, the offers of all visits come to the best of the pair
      offers_best : pair.from ≢ pair.to → IsBest delta_of pass_of (bound s) ls pair.from pair.to
          (best_offers c demand s X Y pair (range 0 (length X)) (nothing (bound s)))
      unfolding move_of into_list best_offers
      offers_best apart =
          let all = scanned_visits (terms_of c demand s) (lists visits lengths) (λ position. into_list ls pair.from position pair.to)
          (λ best position. best_offer c demand s X Y pair position best) offered 0 (length X - 0) (nothing (bound s)) (none_yet (terms_of c demand s) (lists visits lengths)) in
          best-across delta_of pass_of (bound s) ls pair.from pair.to _ apart (rw (at_lists visits lengths pair.from) all.scanned)
          all.still.figured

  -- two lists, with a price or without
  pub pair_best : (from to : ℕ) → from ≢ to
      → IsBest delta_of pass_of (bound s) ls from to (best_priced c demand s (list_of visits lengths from) (list_of visits lengths to) from to)
  unfolding best_priced
  pair_best from to apart = go _ refl
    where
      x : Float
      x = price_of c s (list_of visits lengths from)

      y : Float
      y = price_of c s (list_of visits lengths to)

      pair : Pair
      pair = pair_of c demand s (list_of visits lengths from) (list_of visits lengths to) from to

      go : (b : Bool) → (finite x && finite y) ≡ b → IsBest delta_of pass_of (bound s) ls from to
          (cond b (best_offers c demand s (list_of visits lengths from) (list_of visits lengths to) pair (range 0 (length (list_of visits lengths from)))
          (nothing (bound s))) (nothing (bound s)))
      go true e =
          let told = and_parts (finite x) (finite y) e in
          offers_best pair (record { price_from = refl; price_to = refl; finite_from = told.0; finite_to = told.1; load = refl }) apart
      go false e = no_price from to e apart
