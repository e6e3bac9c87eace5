-- The bits of a whole number: of the sign-clear f64 only one is that number, so the bits of a sum or a difference are known from the number.
-- And 0 leaves the bits of a number above 0. It is because equal numbers of like sign are one float (Data), and sums of sign-clear numbers are
-- sign-clear (Sign).
use mathlib.Core.Path.{◌≡◌, refl, sym}
use mathlib.Core.Bool.{true, false, true≢false}
use mathlib.Core.List.{List, [], ◌∷◌}
use Prim.Native.Nat.{ℕ, ◌+◌, ◌-◌, ◌*◌, ◌^◌, ◌≤◌, ◌<◌}
use native.Mathlib.Nat.{eq_of_mul-eq-mul_right}
use native.Mathlib.Omega.{arith}
use borrow.Author.Tests.{ltb-true}
use lib.Dec.{T, le→leb, lit≤}
use lib.IntN.{pos}
use lib.ListN.{length}
use lib.Ieee.{Float, nan, inf, fin, Format, binary64, down, fits, of_int, lt, eq, add, sub}
use lib.Ieee.Fits.{add-fits, sub-fits, of_int-fits}
use lib.Ieee.Positive.{num, den, den_pos}
use Rattle.numbers.specs.Value.{clear, plus, less, Val, Whole, is_whole}
use Rattle.numbers.specs.Total.{every, total, sum_of}
use Rattle.numbers.specs.Operations.{◌⊕◌, zero64}
use Rattle.numbers.proofs.Order.{own, same_test, eq→test, eq_val}
use Rattle.numbers.proofs.Sign.{round-clear, add-clear, sub-clear, total-clear}
use Rattle.numbers.proofs.Mono.{plus-le, less-le}
use Rattle.numbers.proofs.Fold.{every_imp}
use Rattle.numbers.proofs.Data.{eq_data, eq_bits}
use Rattle.numbers.proofs.Held.{add-nought}
use Rattle.numbers.proofs.Whole.{add_whole, sub_whole, shift_whole, le_whole, of_int_whole, is_whole-clear, total_whole, sum_le}

-- ---- one number, one float
same_value : {x y : Float} {p n c : ℕ} → 0 < c → Val x p n c → Val y p n c → T (eq x y)
same_value {x} {y} {p} {n} {c} C h k = rw (eq_val x y p n p n c C h k) (eq→test (p + n) (p + n) refl)

pub val_bits : {x y : Float} {p n c : ℕ} (f : Format) → 0 < c → T (fits f x) → T (fits f y) → clear x ≡ clear y → Val x p n c → Val y p n c → x ≡ y
val_bits {x} {y} f C u v s h k = eq_bits f x y u v s (same_value C h k)

pub whole_bits : {x y : Float} {p n : ℕ} → T (fits binary64 x) → T (fits binary64 y) → T (clear x) → T (clear y) → Whole x p n → Whole y p n → x ≡ y
whole_bits {x} {y} u v a b h k = val_bits binary64 (lit≤ tt) u v (same_test (clear x) (clear y) (λ t. b) (λ t. a)) h k

-- a whole number that is not zero has one float, whatever its sign
pub whole_data : {x y : Float} {p n : ℕ} → T (fits binary64 x) → T (fits binary64 y) → Whole x p n → Whole y p n → (p ≡ n → ⊥) → x ≡ y
whole_data {x} {y} {p} {n} u v h k z = eq_data binary64 x y u v (same_value (lit≤ tt) h k) (λ e. z (none (plus-le x) (less-le x) e h.at))
  where
    none : plus x ≤ num x → less x ≤ num x → num x ≡ 0 → plus x * 1 + n * den x ≡ p * den x + less x * 1 → p ≡ n
    none a b e g = eq_of_mul-eq-mul_right (den x) (den_pos x) p n (omega arith)

-- 0 added to a number above 0 leaves its bits
pub add_zero_bits : (x : Float) → T (fits binary64 x) → lt zero64 x ≡ true → x ⊕ zero64 ≡ x
unfolding lt add
add_zero_bits nan t h = absurd (true≢false (sym h))
add_zero_bits (inf false) t h = refl
add_zero_bits (inf true) t h = absurd (true≢false (sym h))
add_zero_bits (fin true m e) t h = absurd (true≢false (sym h))
add_zero_bits (fin false m e) t h =
    let x = fin false m e in
    let positive : 0 < num x = omega (arith, ltb-true (0 * 1 * down e) (num x * 1) h) in
    let same = same_value (den_pos x) (own x tt) (add-nought {z = zero64} binary64 x t tt (record { is_finite = tt; at = refl })) in
    sym (eq_data binary64 x (x ⊕ zero64) t (add-fits binary64 x zero64) same (λ none. omega (arith, positive, none)))

-- ---- the float of k is `of_int binary64 (pos k)`
of_int-clear : (k : ℕ) → T (clear (of_int binary64 (pos k)))
unfolding of_int
of_int-clear k = round-clear binary64 k 1

pub whole_is : {x : Float} {k : ℕ} → T (fits binary64 x) → T (clear x) → Whole x k 0 → k ≤ 2 ^ 53 → x ≡ of_int binary64 (pos k)
whole_is {x} {k} u c h l = whole_bits u (of_int-fits binary64 (pos k)) c (of_int-clear k) h (of_int_whole k l)

module _ {x y : Float} {p q : ℕ} (a : T (clear x)) (b : T (clear y)) (h : Whole x p 0) (k : Whole y q 0) where
  pub add_bits : p + q ≤ 2 ^ 53 → add binary64 x y ≡ of_int binary64 (pos (p + q))
  add_bits l = whole_is (add-fits binary64 x y) (add-clear binary64 x y a b) (add_whole h k (omega arith) (omega arith)) l

  pub sub_bits : q ≤ p → p ≤ 2 ^ 53 → sub binary64 x y ≡ of_int binary64 (pos (p - q))
  sub_bits l m =
      whole_is (sub-fits binary64 x y) (sub-clear binary64 x y k.is_finite a b (rw (le_whole k h) (le→leb (q + 0) (p + 0) (omega arith))))
      (shift_whole (p - q) 0 (sub_whole h k (omega arith) (omega arith)) (omega arith)) (omega arith)

total-fits : (xs : List Float) (z : Float) → T (fits binary64 z) → T (fits binary64 (total z xs))
unfolding total
total-fits [] z h = h
total-fits (x ∷ xs) z h = total-fits xs (add binary64 z x) (add-fits binary64 z x)

pub total_bits : (b : ℕ) (xs : List Float) (z : Float) (k : ℕ) → T (fits binary64 z) → T (clear z) → Whole z k 0 → T (every (is_whole b) xs)
    → k + b * length xs ≤ 2 ^ 53
    → total z xs ≡ of_int binary64 (pos (sum_of k xs))
total_bits b xs z k u c h e l =
    let s = sum_le b xs k e in
    whole_is (total-fits xs z u) (total-clear xs z c (every_imp (is_whole b) clear (is_whole-clear b) xs e)) (total_whole b xs z k 0 h e l (omega arith))
    (omega arith)
