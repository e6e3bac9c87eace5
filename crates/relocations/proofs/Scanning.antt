-- The offers of a pair of lists as a scan over its candidates: one place, all places of a visit, and one visit after another. For both engines, whose deltas
-- and tests these are. Assumes nothing.
use mathlib.Core.Path.{◌≡◌, refl, sym, ap, ◌∙◌}
use mathlib.Core.Bool.{Bool, true, false, cond, ◌&&◌}
use mathlib.Core.Option.{Option, some}
use mathlib.Core.List.{List, [], ◌∷◌, ◌++◌, map}
use Prim.Native.Nat.{ℕ, zero, suc, ◌+◌, ◌≤◌, ◌<◌}
use native.Mathlib.Nat.{sub-zero}
use native.Mathlib.Numerals.{add-one}
use lib.ListN.{length}
use lib.Ieee.{Float, lt}
use Rattle.numbers.specs.Operations.{◌⊕◌}
use Rattle.descent.specs.Order.{from_on, range, each}
use Rattle.descent.specs.Across.{at, Relocation}
use Rattle.descent.proofs.Members.{map_in}
use Rattle.descent.proofs.Loops.{range_step, range_done}
use Rattle.descent.specs.Scan.{onward, figure, Counted}
use Rattle.descent.proofs.Scanning.{onward_better, counted_better, onward_stays, onward_end, onward_append, onward-none}
use Rattle.pairs.specs.Pairs.{move_of, nothing}
use Rattle.pairs.specs.declared.Choice.{Choice}
use Rattle.relocations.specs.Relocations.{Terms}
use Rattle.relocations.specs.Offers.{taken_at, better, best_after}
use Rattle.relocations.specs.declared.offer.Offer.{Offer}

-- the candidates of one visit into one list
unfoldable pub into_list : List (List ℕ) → ℕ → ℕ → ℕ → List Relocation
into_list ls from position to =
    map (λ place. record { from = from; position = position; to = to; place = place }) (range 0 (suc (length (at ls to))))

-- ---- places and visits one after another

-- whether the list passes is asked only where the delta is below the best so far
pub better_same : (offer : Offer) (insertion : Float) (passed p : Bool) (best : Choice) (place : ℕ)
    → (lt (offer.removal ⊕ insertion) best.delta ≡ true → passed ≡ p) → better offer insertion passed best place ≡ better offer insertion p best place
unfolding better
better_same offer insertion passed p best place h = go (lt (offer.removal ⊕ insertion) best.delta) h
  where
    go : (b : Bool) → (b ≡ true → passed ≡ p)
        → cond (b && passed) (taken_at offer place (offer.removal ⊕ insertion)) best ≡ cond (b && p) (taken_at offer place (offer.removal ⊕ insertion)) best
    go true h = rw (h refl)
    go false h = refl

module _ (step : Choice → ℕ → Choice) (k n : ℕ) (best : Choice) where
  pub after_turn : k < n → best_after step (range (k + 1) n) (step best k) ≡ best_after step (range k n) best
  unfolding best_after
  after_turn h = rw (add-one k, range_step k n h)

  pub after_end : n ≤ k → best_after step (range k n) best ≡ best
  unfolding best_after
  after_end h = rw (range_done k n h)

module _ (t : Terms) (ls : List (List ℕ)) where
  abbrev delta : Relocation → Float
  delta = t.judge.delta ls

  abbrev pass : Relocation → Bool
  pass = t.search.passes ls

  -- what the scan over some candidates comes to
  abbrev pub scan : Option Relocation → List Relocation → Option Relocation
  scan = onward (t.judge.delta ls) (t.search.passes ls) t.bound

  -- a choice is one: its delta is its move's, which counts
  pub record Best (b : Choice) : Type 0 where
    pub figured : b.delta ≡ figure (t.judge.delta ls) (t.search.passes ls) t.bound (move_of b)
    pub counted : Counted (t.judge.delta ls) (t.search.passes ls) t.bound (move_of b)

  -- the best after some candidates more
  pub record Scanned (cs : List Relocation) (best after : Choice) : Type 0 where
    pub scanned : move_of after ≡ scan (move_of best) cs
    pub still : Best after

  -- none is found yet
  pub none_yet : Best (nothing t.bound)
  unfolding move_of figure Counted
  none_yet = record { figured = refl; counted = tt }

  -- ---- some candidates

  pub scanned_none : (best : Choice) → Best best → Scanned [] best best
  scanned_none best b = record { scanned = sym (onward_end _ _ _ (move_of best)); still = b }

  -- and some more
  pub scanned_on : (cs ds : List Relocation) (best next last : Choice) → Scanned cs best next → Scanned ds next last → Scanned (cs ++ ds) best last
  scanned_on cs ds best next last one more = record {
    scanned = more.scanned ∙ ap (λ (o : Option Relocation). scan o ds) one.scanned ∙ onward_append _ _ _ (move_of best) cs ds;
    still = more.still;
  }

  -- of a visit that may not go
  pub scanned-refused : (from position to : ℕ) (best : Choice) → Best best
      → ((place : ℕ) → pass (record { from = from; position = position; to = to; place = place }) ≡ false)
      → Scanned (into_list ls from position to) best best
  unfolding into_list
  scanned-refused from position to best b fails = record {
    scanned = sym (onward-none _ _ _ (move_of best) _ (λ m i.
        let p = map_in (λ place. record { from = from; position = position; to = to; place = place }) (range 0 (suc (length (at ls to)))) m i in
        ap (λ (m : Relocation). pass m) (sym p.2) ∙ fails p.0));
    still = b;
  }

  -- ---- an offer

  module _ (offer : Offer) where
    abbrev move : ℕ → Relocation
    move place = record { from = offer.from; position = offer.position; to = offer.to; place = place }

    -- at one place
    pub scanned_place : (place : ℕ) (insertion : Float) (passed : Bool) (best : Choice) → Best best → offer.removal ⊕ insertion ≡ delta (move place)
        → passed ≡ pass (move place) → Scanned (move place ∷ []) best (better offer insertion passed best place)
    unfolding better move_of figure
    scanned_place place insertion passed best b is-delta is_passed = go (lt (offer.removal ⊕ insertion) best.delta && passed) refl
      where
        tested : (lt (delta (move place)) (figure delta pass t.bound (move_of best)) && pass (move place)) ≡ (lt (offer.removal ⊕ insertion) best.delta && passed)
        tested = rw (← b.figured, ← is_passed, ← is-delta)

        go : (u : Bool) → (lt (offer.removal ⊕ insertion) best.delta && passed) ≡ u
            → Scanned (move place ∷ []) best (cond u (taken_at offer place (offer.removal ⊕ insertion)) best)
        go true e = record {
          scanned = sym (onward_better _ _ _ (move_of best) (move place) [] b.counted (tested ∙ e) ∙ onward_end _ _ _ (some (move place)));
          still = record { figured = is-delta; counted = counted_better _ _ _ (move_of best) (move place) b.counted (tested ∙ e) };
        }
        go false e = record {
          scanned = sym (onward_stays _ _ _ (move_of best) (move place) [] (tested ∙ e) ∙ onward_end _ _ _ (move_of best));
          still = b;
        }

    -- at all places of a list
    pub scanned_places : (insertion : ℕ → Float) (passed : ℕ → Bool) → ((place : ℕ) → offer.removal ⊕ insertion place ≡ delta (move place))
        → ((place : ℕ) → passed place ≡ pass (move place)) → (best : Choice) → Best best
        → Scanned (into_list ls offer.from offer.position offer.to) best
        (best_after (λ best place. better offer (insertion place) (passed place) best place) (range 0 (suc (length (at ls offer.to)))) best)
    unfolding into_list best_after
    scanned_places insertion passed is-delta is_passed best b = rw (sub-zero (suc (length (at ls offer.to)))) (all 0 (suc (length (at ls offer.to))) best b)
      where
        step : Choice → ℕ → Choice
        step best place = better offer (insertion place) (passed place) best place

        all : (a n : ℕ) (best : Choice) → Best best → Scanned (map move (from_on a n)) best (best_after step (from_on a n) best)
        all a zero best b = scanned_none best b
        all a (suc n) best b =
            let one = scanned_place a (insertion a) (passed a) best b (is-delta a) (is_passed a) in
            scanned_on (move a ∷ []) (map move (from_on (suc a) n)) best _ _ one (all (suc a) n _ one.still)

  -- ---- one visit after another

  -- each with its candidates
  pub scanned_visits : (f : ℕ → List Relocation) (step : Choice → ℕ → Choice) → ((k : ℕ) (best : Choice) → Best best → Scanned (f k) best (step best k))
      → (a n : ℕ) (best : Choice) → Best best → Scanned (each (from_on a n) f) best (best_after step (from_on a n) best)
  unfolding best_after
  scanned_visits f step one a zero best b = scanned_none best b
  scanned_visits f step one a (suc n) best b =
      scanned_on (f a) (each (from_on (suc a) n) f) best _ _ (one a best b) (scanned_visits f step one (suc a) n _ (one a best b).still)

  -- from here on the scan over what is left comes to the scan over all from the start
  pub record Scanning (left all : List Relocation) (first best : Choice) : Type 0 where
    pub rest : scan (move_of best) left ≡ scan (move_of first) all
    pub still : Best best

  pub scanning_start : (all : List Relocation) (best : Choice) → Best best → Scanning all all best best
  scanning_start all best b = record { rest = refl; still = b }

  module _ (f : ℕ → List Relocation) (k n : ℕ) (all : List Relocation) (first best : Choice) (w : Scanning (each (range k n) f) all first best) where
    pub scanning_turn : (after : Choice) → k < n → Scanned (f k) best after → Scanning (each (range (k + 1) n) f) all first after
    scanning_turn after h t =
        let step : scan (move_of best) (f k ++ each (range (suc k) n) f) ≡ scan (move_of best) (each (range k n) f) = rw (range_step k n h) in
        record {
          rest = rw add-one (ap (λ (o : Option Relocation). scan o (each (range (suc k) n) f)) t.scanned
              ∙ onward_append _ _ _ (move_of best) (f k) (each (range (suc k) n) f) ∙ step ∙ w.rest);
          still = t.still;
        }

    pub scanning_end : n ≤ k → Scanned all first best
    scanning_end h =
        let done : each (range k n) f ≡ [] = rw (range_done k n h) in
        record {
          scanned = sym (onward_end _ _ _ (move_of best)) ∙ ap (scan (move_of best)) (sym done) ∙ w.rest;
          still = w.still;
        }
