-- The first van with an id: that the library's `position` finds it, that what it finds is a van of the fleet, and that its id finds it again. Each by going down the ids.
use mathlib.Core.Path.{◌≡◌, refl, sym, ap, ◌∙◌}
use mathlib.Core.Logic.{◌⊎◌, inl, inr}
use mathlib.Core.Bool.{Bool, true, false, not, cond}
use mathlib.Core.List.{List, [], ◌∷◌}
use Prim.Native.Nat.{ℕ, suc, ◌+◌, ◌≤◌, ◌<◌}
use native.Mathlib.Omega.{arith}
use borrow.Author.Tests.{eq-eqb, eqb-true, ltb-true, ltb-false}
use lib.Dec.{eqb, ltb}
use lib.ListN.{length, get_or, drop}
use lib.Seq.{drop-cons}
use Rattle.std.specs.Prelude.{Option, Some, None, unwrap_or}
use Rattle.std.specs.List.{position_or_len}
use Rattle.fleet.specs.Fleet.{Fleet, van_at, number_from, fleet_vehicle, Driven, Manned}

-- counted on from k, the van at k is found where it has the id
pub number_here : (id : ℕ) (ids : List ℕ) (k : ℕ) → k < length ids → get_or ids k 0 ≡ id → number_from id (drop k ids) k ≡ k
unfolding number_from
number_here id ids k h e = rw (drop-cons ids k 0 h, eq-eqb (get_or ids k 0) id e, number_from)

-- where the first van with the id stands, as the library's `position` counts
abbrev place : ℕ → List ℕ → ℕ
place id ids = position_or_len (λ x. eqb x id) ids

number_there : (id : ℕ) (ids : List ℕ) (k : ℕ) → place id ids < length ids → number_from id ids k ≡ k + place id ids
unfolding number_from
number_there id [] k there = absurd (omega arith)
number_there id (x ∷ ids) k there = by_test (eqb x id) there (λ h. number_there id ids (suc k) h)
  where
    by_test : (b : Bool) → cond (not b) (1 + place id ids) 0 < suc (length ids) → (place id ids < length ids → number_from id ids (suc k) ≡ suc k + place id ids)
        → elim b [ true ↦ k | false ↦ number_from id ids (suc k) ] ≡ k + cond (not b) (1 + place id ids) 0
    by_test true h rest = omega arith
    by_test false h rest = rest (omega arith) ∙ omega arith

number_absent : (id : ℕ) (ids : List ℕ) (k : ℕ) → length ids ≤ place id ids → number_from id ids k ≡ 0
unfolding number_from
number_absent id [] k none = refl
number_absent id (x ∷ ids) k none = by_test (eqb x id) none (λ h. number_absent id ids (suc k) h)
  where
    by_test : (b : Bool) → suc (length ids) ≤ cond (not b) (1 + place id ids) 0 → (length ids ≤ place id ids → number_from id ids (suc k) ≡ 0)
        → ◌≡◌ {A = ℕ} (elim b [ true ↦ k | false ↦ number_from id ids (suc k) ]) 0
    by_test true h rest = absurd (omega arith)
    by_test false h rest = rest (omega arith)

-- what `position` answers is the number of the first van with the id, and where it answers none the number is 0
pub number_found : (id : ℕ) (ids : List ℕ) (found : Option ℕ)
    → found ≡ cond (ltb (position_or_len (λ x. eqb x id) ids) (length ids)) (Some (position_or_len (λ x. eqb x id) ids)) None
    → unwrap_or found 0 ≡ number_from id ids 0
number_found id ids found is = ap (λ o. unwrap_or o 0) is ∙ by_place (ltb (place id ids) (length ids)) refl
  where
    by_place : (b : Bool) → ltb (place id ids) (length ids) ≡ b → unwrap_or (cond b (Some (place id ids)) None) 0 ≡ number_from id ids 0
    by_place true e = sym (number_there id ids 0 (ltb-true _ _ e) ∙ omega arith)
    by_place false e = sym (number_absent id ids 0 (ltb-false _ _ e))

-- counted on from k, the number is 0 or one of the rest
number_within : (id : ℕ) (ids : List ℕ) (k n : ℕ) → k + length ids ≡ n → 0 < n → number_from id ids k < n
unfolding number_from
number_within id [] k n e h = h
number_within id (x ∷ ids) k n e h = by_test (eqb x id) (number_within id ids (suc k) n (omega arith) h)
  where
    by_test : (b : Bool) → number_from id ids (suc k) < n → elim b [ true ↦ k | false ↦ number_from id ids (suc k) ] < n
    by_test true rest = omega arith
    by_test false rest = rest

pub number_below : (id : ℕ) (ids : List ℕ) → 0 < length ids → number_from id ids 0 < length ids
number_below id ids h = number_within id ids 0 (length ids) (omega arith) h

-- so the van of every id is one that can be driven
pub vehicle_driven : (l : ℕ) (f : Fleet) (id : ℕ) → Manned l f → Driven l (fleet_vehicle f id)
vehicle_driven l f id m = m.crewed.driven (number_from id f.ids 0) (number_below id f.ids m.some_van)

-- ---- the van of the id of the van found

-- a number counted on from k has the id asked for, or is 0
abbrev Found : ℕ → List ℕ → ℕ → ℕ → Type 0
Found id ids k n = ((j : ℕ) × (n ≡ k + j) × (get_or ids j 0 ≡ id)) ⊎ (n ≡ 0)

found_at : (id : ℕ) (ids : List ℕ) (k : ℕ) → Found id ids k (number_from id ids k)
unfolding number_from
found_at id [] k = inr refl
found_at id (x ∷ ids) k = by_test (eqb x id) refl (found_at id ids (suc k))
  where
    by_test : (b : Bool) → eqb x id ≡ b → Found id ids (suc k) (number_from id ids (suc k))
        → Found id (x ∷ ids) k (elim b [ true ↦ k | false ↦ number_from id ids (suc k) ])
    by_test true e rest = inl (0, omega arith, eqb-true x id e)
    by_test false e (inl (j, n, is)) = inl (suc j, omega arith, is)
    by_test false e (inr none) = inr none

first_number : (ids : List ℕ) → number_from (get_or ids 0 0) ids 0 ≡ 0
unfolding number_from
first_number [] = refl
first_number (x ∷ ids) = rw (eq-eqb x x refl, number_from)

-- the first van with the id of the van found is that van: it has the id asked for, or it is the first van
pub found_again : (f : Fleet) (id : ℕ) → fleet_vehicle f (fleet_vehicle f id).id ≡ fleet_vehicle f id
unfolding van_at
found_again f id = ap (van_at f) (by_case (number_from id f.ids 0) refl (found_at id f.ids 0))
  where
    by_case : (n : ℕ) → number_from id f.ids 0 ≡ n → Found id f.ids 0 n → number_from (get_or f.ids n 0) f.ids 0 ≡ n
    by_case n e (inl (j, at, is)) =
        let here : n ≡ j = omega (arith, at) in
        ap (λ i. number_from i f.ids 0) (ap (λ k. get_or f.ids k 0) here ∙ is) ∙ e
    by_case n e (inr none) = ap (λ k. number_from (get_or f.ids k 0) f.ids 0) none ∙ first_number f.ids ∙ sym none
