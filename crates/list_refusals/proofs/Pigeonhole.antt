-- Different numbers below a bound are no more than the bound. Of n + 1 numbers below m + 1, the last takes the place of m among the others,
-- which are then n different numbers below m. Assumes nothing.
use mathlib.Core.Path.{◌≡◌, sym, ◌∙◌}
use mathlib.Core.Logic.{◌≢◌}
use mathlib.Core.Bool.{cond}
use Prim.Native.Nat.{ℕ, zero, suc, ◌≤◌, ◌<◌}
use native.Mathlib.Decide.{ℕ_discrete}
use native.Mathlib.Omega.{arith}
use borrow.Author.Tests.{eq-eqb, ne_eqb}
use lib.Dec.{eqb}

-- v in the place of m
unfoldable instead : ℕ → ℕ → ℕ → ℕ
instead m v x = cond (eqb x m) v x

instead_there : (m v x : ℕ) → x ≡ m → instead m v x ≡ v
unfolding instead
instead_there m v x e = rw (eq-eqb x m e)

instead_else : (m v x : ℕ) → x ≢ m → instead m v x ≡ x
unfolding instead
instead_else m v x n = rw (ne_eqb x m n)

pub pigeonhole : (m n : ℕ) (f : ℕ → ℕ) → ((i : ℕ) → i < n → f i < m) → ((i j : ℕ) → i < j → j < n → f i ≢ f j) → n ≤ m
pigeonhole zero zero f below apart = omega arith
pigeonhole zero (suc n) f below apart = absurd (omega (arith, below 0 (omega arith)))
pigeonhole (suc m) zero f below apart = omega arith
pigeonhole (suc m) (suc n) f below apart =
    let fewer : n ≤ m = pigeonhole m n (λ i. instead m (f n) (f i)) (λ i h. lower i h (ℕ_discrete (f i) m))
    (λ i j h k. still i j h k (ℕ_discrete (f i) m) (ℕ_discrete (f j) m)) in
    omega arith
  where
    lower : (i : ℕ) → i < n → Dec (f i ≡ m) → instead m (f n) (f i) < m
    lower i h (yes e) =
        let other : f n ≢ m = λ d. apart i n h (omega arith) (e ∙ sym d) in
        rw (instead_there m (f n) (f i) e) (omega (arith, below n (omega arith)))
    lower i h (no o) = rw (instead_else m (f n) (f i) o) (omega (arith, below i (omega arith), o))

    still : (i j : ℕ) → i < j → j < n → Dec (f i ≡ m) → Dec (f j ≡ m) → instead m (f n) (f i) ≢ instead m (f n) (f j)
    still i j h k (yes e) (yes d) q = apart i j h (omega arith) (e ∙ sym d)
    still i j h k (yes e) (no o) q = apart j n k (omega arith) (sym (sym (instead_there m (f n) (f i) e) ∙ q ∙ instead_else m (f n) (f j) o))
    still i j h k (no o) (yes d) q = apart i n (omega arith) (omega arith) (sym (instead_else m (f n) (f i) o) ∙ q ∙ instead_there m (f n) (f j) d)
    still i j h k (no o) (no p) q = apart i j h (omega arith) (sym (instead_else m (f n) (f i) o) ∙ q ∙ instead_else m (f n) (f j) p)
