-- What it costs to insert a visit into a list from which one went, or into which one came: away from the leg that changed the stops around a place are the
-- same, and a list that is empty neither before nor after pays no fixed cost. Assumes nothing.
use mathlib.Core.Path.{◌≡◌, refl, ap}
use mathlib.Core.Bool.{false}
use mathlib.Core.List.{List, [], ◌∷◌}
use Prim.Native.Nat.{ℕ, zero, suc, ◌≤◌, ◌<◌}
use native.Mathlib.Omega.{arith}
use borrow.Author.Tests.{ne_eqb}
use lib.Dec.{eqb}
use lib.ListN.{length, get_or}
use lib.Ieee.{Float}
use Rattle.deltas.specs.Deltas.{stop_at, stop_before, around, insertion_cost, insertion_delta}
use Rattle.edits.specs.Edits.{inserted, without}
use Rattle.insertions.proofs.Reached.{Joined, Split}

-- ---- elements

without_low : (xs : List ℕ) (i k z : ℕ) → k < i → i < length xs → get_or (without xs i) k z ≡ get_or xs k z
without_low [] i k z h l = absurd (omega arith)
without_low (x ∷ xs) zero k z h l = absurd (omega arith)
without_low (x ∷ xs) (suc i) zero z h l = refl
without_low (x ∷ xs) (suc i) (suc k) z h l = without_low xs i k z (omega arith) (omega arith)

without-high : (xs : List ℕ) (i k z : ℕ) → i ≤ k → i < length xs → get_or (without xs i) k z ≡ get_or xs (suc k) z
without-high [] i k z h l = absurd (omega arith)
without-high (x ∷ xs) zero k z h l = refl
without-high (x ∷ xs) (suc i) zero z h l = absurd (omega arith)
without-high (x ∷ xs) (suc i) (suc k) z h l = without-high xs i k z (omega arith) (omega arith)

pub without-length : (xs : List ℕ) (i : ℕ) → i < length xs → suc (length (without xs i)) ≡ length xs
without-length [] i l = absurd (omega arith)
without-length (x ∷ xs) zero l = refl
without-length (x ∷ xs) (suc i) l = ap suc (without-length xs i (omega arith))

with_low : (xs : List ℕ) (v i k z : ℕ) → k < i → i ≤ length xs → get_or (inserted xs v i) k z ≡ get_or xs k z
with_low xs v zero k z h l = absurd (omega arith)
with_low [] v (suc i) k z h l = absurd (omega arith)
with_low (x ∷ xs) v (suc i) zero z h l = refl
with_low (x ∷ xs) v (suc i) (suc k) z h l = with_low xs v i k z (omega arith) (omega arith)

with_high : (xs : List ℕ) (v i k z : ℕ) → i ≤ k → i ≤ length xs → get_or (inserted xs v i) (suc k) z ≡ get_or xs k z
with_high xs v zero k z h l = refl
with_high [] v (suc i) k z h l = absurd (omega arith)
with_high (x ∷ xs) v (suc i) zero z h l = absurd (omega arith)
with_high (x ∷ xs) v (suc i) (suc k) z h l = with_high xs v i k z (omega arith) (omega arith)

pub with_length : (xs : List ℕ) (v i : ℕ) → i ≤ length xs → length (inserted xs v i) ≡ suc (length xs)
with_length xs v zero l = refl
with_length [] v (suc i) l = absurd (omega arith)
with_length (x ∷ xs) v (suc i) l = ap suc (with_length xs v i (omega arith))

-- ---- the stops around a place

module _ (z : ℕ) (xs : List ℕ) (i : ℕ) where
  went_before_low : (k : ℕ) → k ≤ i → i < length xs → stop_before z (without xs i) k ≡ stop_before z xs k
  unfolding stop_before
  went_before_low zero h l = refl
  went_before_low (suc k) h l = without_low xs i k z h l

  went_before_high : (k : ℕ) → i < k → i < length xs → stop_before z (without xs i) k ≡ stop_before z xs (suc k)
  unfolding stop_before
  went_before_high zero h l = absurd (omega arith)
  went_before_high (suc k) h l = without-high xs i k z (omega arith) l

  came_before_low : (v k : ℕ) → k ≤ i → i ≤ length xs → stop_before z (inserted xs v i) k ≡ stop_before z xs k
  unfolding stop_before
  came_before_low v zero h l = refl
  came_before_low v (suc k) h l = with_low xs v i k z h l

  came_before_high : (v k : ℕ) → i < k → i ≤ length xs → stop_before z (inserted xs v i) (suc k) ≡ stop_before z xs k
  unfolding stop_before
  came_before_high v zero h l = absurd (omega arith)
  came_before_high v (suc k) h l = with_high xs v i k z (omega arith) l

  went_at_low : (k : ℕ) → k < i → i < length xs → stop_at z (without xs i) k ≡ stop_at z xs k
  unfolding stop_at
  went_at_low k h l = without_low xs i k z h l

  went_at_high : (k : ℕ) → i ≤ k → i < length xs → stop_at z (without xs i) k ≡ stop_at z xs (suc k)
  unfolding stop_at
  went_at_high k h l = without-high xs i k z h l

  came_at_low : (v k : ℕ) → k < i → i ≤ length xs → stop_at z (inserted xs v i) k ≡ stop_at z xs k
  unfolding stop_at
  came_at_low v k h l = with_low xs v i k z h l

  came_at_high : (v k : ℕ) → i ≤ k → i ≤ length xs → stop_at z (inserted xs v i) (suc k) ≡ stop_at z xs k
  unfolding stop_at
  came_at_high v k h l = with_high xs v i k z h l

-- ---- the costs

module _ (d : ℕ → ℕ → Float) (z : ℕ) (fixed : Float) where
  not_empty : (n : ℕ) → 0 < n → eqb n 0 ≡ false
  not_empty n h = ne_eqb n 0 (λ e. omega arith)

  same : (xs ys : List ℕ) (u j k : ℕ) → 0 < length xs → 0 < length ys → stop_before z ys j ≡ stop_before z xs k → stop_at z ys j ≡ stop_at z xs k
      → insertion_delta d z fixed ys u j ≡ insertion_delta d z fixed xs u k
  unfolding insertion_delta insertion_cost around
  same xs ys u j k m n a b = rw (a, b, not_empty (length xs) m, not_empty (length ys) n)

  -- a visit went
  pub joined : (xs : List ℕ) (i u : ℕ) → i < length xs
      → Joined (insertion_delta d z fixed xs u) (insertion_delta d z fixed (without xs i) u) (length xs) i
  joined xs i u l =
      let n = without-length xs i l in
      record {
        inside = l;
        low = λ k h. same xs (without xs i) u k k (omega arith) (omega arith) (went_before_low z xs i k (omega arith) l) (went_at_low z xs i k h l);
        high = λ k h t.
            same xs (without xs i) u k (suc k) (omega arith) (omega arith) (went_before_high z xs i k h l) (went_at_high z xs i k (omega arith) l);
      }

  -- a visit came
  pub split : (xs : List ℕ) (v i u : ℕ) → i ≤ length xs
      → Split (insertion_delta d z fixed xs u) (insertion_delta d z fixed (inserted xs v i) u) (suc (length xs)) i
  split xs v i u l =
      let n = with_length xs v i l in
      record {
        inside = omega arith;
        low = λ k h. same xs (inserted xs v i) u k k (omega arith) (omega arith) (came_before_low z xs i v k (omega arith) l) (came_at_low z xs i v k h l);
        high = λ k h t.
            same xs (inserted xs v i) u (suc k) k (omega arith) (omega arith) (came_before_high z xs i v k h l) (came_at_high z xs i v k (omega arith) l);
      }
