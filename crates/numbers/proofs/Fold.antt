-- Loops over a list of floats that keep one number: how a turn and the end of each reads, and what a loop that chooses ends with.
-- A turn is the definition's clause at the element that the index names. A choice is one of the numbers, and no other is better, since no step makes it worse.
use mathlib.Core.Path.{◌≡◌, refl, sym, ap, ◌∙◌, subst}
use mathlib.Core.Bool.{Bool, true, ◌&&◌}
use mathlib.Core.List.{List, [], ◌∷◌}
use mathlib.Core.Logic.{◌⊎◌, inl, inr, ⊎_elim}
use Prim.Native.Nat.{ℕ, zero, suc, ◌+◌, ◌≤◌, ◌<◌}
use native.Mathlib.Nat.{le_of_suc-le-suc, not-suc-le-zero, zero-lt-suc}
use native.Mathlib.Numerals.{add-one}
use native.Mathlib.Omega.{arith}
use lib.Dec.{T}
use lib.ListN.{length, drop, get_or, drop_of_length-le}
use lib.Seq.{drop-cons}
use lib.Ieee.{Float, nan, binary64, add}
use lib.Ieee.Fits.{and_l, and_r, and_i}
use Rattle.numbers.specs.Value.{ordered}
use Rattle.numbers.specs.Total.{every, total, larger, largest, smaller, least}

-- ---- every element passes a test
pub every-at : (t : Float → Bool) (xs : List Float) (i : ℕ) (d : Float) → T (every t xs) → i < length xs → T (t (get_or xs i d))
unfolding every
every-at t [] i d h l = absurd (not-suc-le-zero l)
every-at t (x ∷ xs) zero d h l = and_l (t x) (every t xs) h
every-at t (x ∷ xs) (suc i) d h l = every-at t xs i d (and_r (t x) (every t xs) h) (le_of_suc-le-suc l)

pub every_of : (t : Float → Bool) (xs : List Float) (d : Float) → ((i : ℕ) → i < length xs → T (t (get_or xs i d))) → T (every t xs)
unfolding every
every_of t [] d h = tt
every_of t (x ∷ xs) d h = and_i (t x) (every t xs) (h 0 (zero-lt-suc (length xs))) (every_of t xs d (λ i l. h (suc i) (omega arith)))

pub every_imp : (s t : Float → Bool) → ((x : Float) → T (s x) → T (t x)) → (xs : List Float) → T (every s xs) → T (every t xs)
unfolding every
every_imp s t h [] e = tt
every_imp s t h (x ∷ xs) e = and_i (t x) (every t xs) (h x (and_l (s x) (every s xs) e)) (every_imp s t h xs (and_r (s x) (every s xs) e))

pub every_turn : (t : Float → Bool) (xs : List Float) (i : ℕ) → i < length xs → every t (drop i xs) ≡ (t (get_or xs i nan) && every t (drop (i + 1) xs))
unfolding every
every_turn t xs i h = rw (add-one i, drop-cons xs i nan h)

pub every_end : (t : Float → Bool) (xs : List Float) (i : ℕ) → length xs ≤ i → every t (drop i xs) ≡ true
unfolding every
every_end t xs i h = rw (drop_of_length-le xs h)

-- ---- a loop that keeps one number
module _ (g : Float → List Float → Float) (step : Float → Float → Float) (none : (z : Float) → g z [] ≡ z)
    (more : (z x : Float) (xs : List Float) → g z (x ∷ xs) ≡ g (step z x) xs) where
  turn : (xs : List Float) (z : Float) (i : ℕ) → i < length xs → g z (drop i xs) ≡ g (step z (get_or xs i nan)) (drop (i + 1) xs)
  turn xs z i h = rw (add-one i) (ap (g z) (drop-cons xs i nan h) ∙ more z (get_or xs i nan) (drop (suc i) xs))

  end : (xs : List Float) (z : Float) (i : ℕ) → length xs ≤ i → g z (drop i xs) ≡ z
  end xs z i h = ap (g z) (drop_of_length-le xs h) ∙ none z

total_none : (z : Float) → total z [] ≡ z
unfolding total
total_none z = refl

total_more : (z x : Float) (xs : List Float) → total z (x ∷ xs) ≡ total (add binary64 z x) xs
unfolding total
total_more z x xs = refl

pub total-turn : (xs : List Float) (z : Float) (i : ℕ) → i < length xs → total z (drop i xs) ≡ total (add binary64 z (get_or xs i nan)) (drop (i + 1) xs)
total-turn = turn total (add binary64) total_none total_more

pub total_end : (xs : List Float) (z : Float) (i : ℕ) → length xs ≤ i → total z (drop i xs) ≡ z
total_end = end total (add binary64) total_none total_more

pub largest_none : (z : Float) → largest z [] ≡ z
unfolding largest
largest_none z = refl

pub largest_more : (z x : Float) (xs : List Float) → largest z (x ∷ xs) ≡ largest (larger z x) xs
unfolding largest
largest_more z x xs = refl

pub largest_turn : (xs : List Float) (z : Float) (i : ℕ) → i < length xs → largest z (drop i xs) ≡ largest (larger z (get_or xs i nan)) (drop (i + 1) xs)
largest_turn = turn largest larger largest_none largest_more

pub largest_end : (xs : List Float) (z : Float) (i : ℕ) → length xs ≤ i → largest z (drop i xs) ≡ z
largest_end = end largest larger largest_none largest_more

pub least_none : (z : Float) → least z [] ≡ z
unfolding least
least_none z = refl

pub least_more : (z x : Float) (xs : List Float) → least z (x ∷ xs) ≡ least (smaller z x) xs
unfolding least
least_more z x xs = refl

pub least_turn : (xs : List Float) (z : Float) (i : ℕ) → i < length xs → least z (drop i xs) ≡ least (smaller z (get_or xs i nan)) (drop (i + 1) xs)
least_turn = turn least smaller least_none least_more

pub least_end : (xs : List Float) (z : Float) (i : ℕ) → length xs ≤ i → least z (drop i xs) ≡ z
least_end = end least smaller least_none least_more

-- ---- a loop that chooses: what it ends with is z or an element, as a datum
abbrev pub Chosen : Float → List Float → Float → Type 0
Chosen z xs r = (r ≡ z) ⊎ ((i : ℕ) × (i < length xs) × (r ≡ get_or xs i nan))

later : {z x r : Float} (xs : List Float) (w : Float) → (w ≡ z) ⊎ (w ≡ x) → Chosen w xs r → Chosen z (x ∷ xs) r
later xs w (inl p) (inl e) = inl (e ∙ p)
later xs w (inr p) (inl e) = inr (0, zero-lt-suc (length xs), e ∙ p)
later xs w s (inr v) = inr (suc v.0, omega (arith, v.1), v.2)

module _ (g : Float → List Float → Float) (step : Float → Float → Float) (none : (z : Float) → g z [] ≡ z)
    (more : (z x : Float) (xs : List Float) → g z (x ∷ xs) ≡ g (step z x) xs)
    (one : (z x : Float) → (step z x ≡ z) ⊎ (step z x ≡ x)) where
  pub chosen_is : (xs : List Float) (z : Float) → Chosen z xs (g z xs)
  chosen_is [] z = inl (none z)
  chosen_is (x ∷ xs) z = subst (Chosen z (x ∷ xs)) (sym (more z x xs)) (later xs (step z x) (one z x) (chosen_is xs (step z x)))

  step_passes : (t : Float → Bool) (z x : Float) → T (t z) → T (t x) → T (t (step z x))
  step_passes t z x h k = ⊎_elim (λ (e : step z x ≡ z). rw e h) (λ (e : step z x ≡ x). rw e k) (one z x)

  -- so it passes every test that they all pass
  pub chosen_passes : (t : Float → Bool) (xs : List Float) (z : Float) → T (t z) → T (every t xs) → T (t (g z xs))
  unfolding every
  chosen_passes t [] z h e = rw (none z) h
  chosen_passes t (x ∷ xs) z h e =
      rw (more z x xs) (chosen_passes t xs (step z x) (step_passes t z x h (and_l (t x) (every t xs) e)) (and_r (t x) (every t xs) e))

  -- and it is as good as each of them, where a step's result is as good as both
  module _ (good : Float → Float → Bool) (self : (x : Float) → T (ordered x) → T (good x x))
      (through : (x y z : Float) → T (good x y) → T (good y z) → T (good x z))
      (both : (z x : Float) → T (ordered z) → T (ordered x) → T (good (step z x) z) × T (good (step z x) x)) where
    pub chosen_start : (xs : List Float) (z : Float) → T (ordered z) → T (every ordered xs) → T (good (g z xs) z)
    unfolding every
    chosen_start [] z h e = rw (none z) (self z h)
    chosen_start (x ∷ xs) z h e =
        let k = and_l (ordered x) (every ordered xs) e in
        rw (more z x xs) (through (g (step z x) xs) (step z x) z
        (chosen_start xs (step z x) (step_passes ordered z x h k) (and_r (ordered x) (every ordered xs) e)) (both z x h k).0)

    pub chosen_best : (xs : List Float) (z : Float) (i : ℕ) → T (ordered z) → T (every ordered xs) → i < length xs → T (good (g z xs) (get_or xs i nan))
    unfolding every
    chosen_best [] z i h e l = absurd (not-suc-le-zero l)
    chosen_best (x ∷ xs) z zero h e l =
        let k = and_l (ordered x) (every ordered xs) e in
        rw (more z x xs) (through (g (step z x) xs) (step z x) x
        (chosen_start xs (step z x) (step_passes ordered z x h k) (and_r (ordered x) (every ordered xs) e)) (both z x h k).1)
    chosen_best (x ∷ xs) z (suc i) h e l =
        rw (more z x xs) (chosen_best xs (step z x) i (step_passes ordered z x h (and_l (ordered x) (every ordered xs) e))
        (and_r (ordered x) (every ordered xs) e) (le_of_suc-le-suc l))
