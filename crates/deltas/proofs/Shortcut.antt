-- On a symmetric table of plain distances turning a piece changes nothing, bit for bit: each turned leg's difference is 0.0, and so is their sum.
-- So code may skip them, as the Rust does. Assumes nothing.
use mathlib.Core.Path.{◌≡◌, refl, sym, ◌∙◌}
use mathlib.Core.Bool.{Bool, true, false, ◌||◌}
use mathlib.Core.List.{List, [], ◌∷◌}
use Prim.Native.Nat.{ℕ, zero, suc, ◌+◌, ◌-◌, ◌*◌, ◌^◌, ◌<◌}
use native.Mathlib.Nat.{zero-mul, mul-pos, zero-lt-suc, mul-one}
use native.Mathlib.Omega.{arith}
use borrow.Author.Tests.{le-ltb, ltb-true, ltb-false}
use lib.Dec.{T, ltb, eqb, eqb→eq, lit≤}
use lib.Ieee.{Float, nan, inf, fin, binary64, up, down, add, sub, neg, sum, round, fits, eq}
use lib.Ieee.Scale.{finite}
use lib.Ieee.Exact.{HasValue, round_exact}
use lib.Ieee.Back.{whole_unique}
use lib.Ieee.Fits.{and_l, round-fits, down_pos}
use lib.ListN.{length, get_or}
use lib.Seq.{slice}
use Rattle.numbers.specs.Operations.{◌⊕◌, ◌⊖◌, zero64}
use Rattle.numbers.specs.Value.{clear}
use Rattle.numbers.specs.Plain.{plain}
use Rattle.numbers.proofs.Plain.{plain-finite, plain-clear, plain-ordered}
use Rattle.numbers.proofs.Total.{eq_refl, eq-sym}
use Rattle.tests.specs.All.{all_at}
use Rattle.day.specs.Matrix.{leg, mirrored, symmetric, Square, entry_below}
use Rattle.day.specs.Refusal.{all_plain}
use Rattle.descent.proofs.Members.{true-T}
use Rattle.descent.proofs.Below.{Below, over_none, below_of}
use Rattle.deltas.specs.Changes.{turned_legs, reversal_delta}
use Rattle.deltas.specs.Deltas.{Visits, Marked}
use Rattle.deltas.proofs.Stops.{slice_below}

-- ---- 0.0 as the rounding of nothing

no_factor : (a c : ℕ) → 0 < c → a * c ≡ 0 → a ≡ 0
no_factor zero c h e = refl
no_factor (suc a) c h e = let p : 0 < suc a * c = mul-pos (zero-lt-suc a) h in absurd (omega arith)

zero_value : (x : Float) (c : ℕ) → 0 < c → HasValue x false 0 c → HasValue x false 0 1
zero_value nan c h v = v
zero_value (inf s) c h v = v
zero_value (fin s m e) c h v =
    let z : m * up e * c ≡ 0 = v.1 ∙ zero-mul (down e) in
    (v.0, mul-one (m * up e) ∙ no_factor (m * up e) c h z ∙ sym (zero-mul (down e)))

round-zero : (c : ℕ) → 0 < c → round binary64 false 0 c ≡ zero64
unfolding fits
round-zero c h =
    whole_unique binary64 (round binary64 false 0 c) zero64 false 0 (round-fits binary64 false 0 c) tt
    (zero_value (round binary64 false 0 c) c h (round_exact binary64 false 0 c 0 0 h (lit≤ tt) (lit≤ tt) (zero-mul (2 ^ 1074) ∙ sym (zero-mul c))))
    (refl, refl)

-- the difference of two numbers that are equal, their signs clear
equal_difference : (x y : Float) → T (finite x) → T (finite y) → T (clear x) → T (clear y) → T (eq x y) → x ⊖ y ≡ zero64
unfolding sub add neg sum eq
equal_difference nan y f g c d e = absurd f
equal_difference (inf s) y f g c d e = absurd f
equal_difference (fin s m e) nan f g c d q = absurd g
equal_difference (fin s m e) (inf t) f g c d q = absurd g
equal_difference (fin true m e) (fin t n k) f g c d q = absurd c
equal_difference (fin false m e) (fin true n k) f g c d q = absurd d
equal_difference (fin false m e) (fin false n k) f g c d q =
    let A = m * up e * down k in
    let B = n * up k * down e in
    let same : A ≡ B = eqb→eq A B (and_l (eqb A B) (true || eqb A 0) q) in
    let not-below : ltb A B ≡ false = le-ltb A B (omega arith) in
    let none : A - B ≡ 0 = omega arith in
    rw (not-below, none) (round-zero (down e * down k) (mul-pos (down_pos e) (down_pos k)))

zero_twice : zero64 ⊕ zero64 ≡ zero64
unfolding add
zero_twice = refl

-- ---- the table

module _ (l : ℕ) (distances : List Float) (square : Square l distances) (all : all_plain distances ≡ true) where
  leg-plain : (a b : ℕ) → a < l → b < l → T (plain (leg l distances a b))
  unfolding leg all_plain
  leg-plain a b p q =
      true-T (plain (get_or distances (a * l + b) nan))
      (all_at (λ k. plain (get_or distances k nan)) (length distances) (a * l + b) (rw square.size (entry_below l a b p q)) all)

  -- the mark is set: each entry equals its mirror
  left_of : symmetric l distances ≡ true → (a b : ℕ) → a < l → b < a → T (eq (leg l distances a b) (leg l distances b a))
  unfolding symmetric mirrored
  left_of mark a b p q =
      true-T (eq (leg l distances a b) (leg l distances b a))
      (all_at (λ to. eq (leg l distances a to) (leg l distances to a)) a b q (all_at (mirrored l distances) l a p mark))

  mirror : symmetric l distances ≡ true → (a b : ℕ) → a < l → b < l → T (eq (leg l distances a b) (leg l distances b a))
  mirror mark a b p q = go (ltb b a) (ltb a b) refl refl
    where
      go : (s t : Bool) → ltb b a ≡ s → ltb a b ≡ t → T (eq (leg l distances a b) (leg l distances b a))
      go true t e f = left_of mark a b p (ltb-true b a e)
      go false true e f = eq-sym (leg l distances b a) (leg l distances a b) (left_of mark b a q (ltb-true a b f))
      go false false e f =
          let same : a ≡ b = omega (arith, ltb-false b a e, ltb-false a b f) in
          rw same (eq_refl (leg l distances b b) (plain-ordered (leg l distances b b) (leg-plain b b q q)))

  module _ (mark : symmetric l distances ≡ true) where
    turned_nothing : (x : ℕ) (ys : List ℕ) → x < l → Below l ys → turned_legs (leg l distances) zero64 x ys ≡ zero64
    unfolding turned_legs
    turned_nothing x [] hx b = refl
    turned_nothing x (y ∷ ys) hx b =
        let hy = over_none l y (omega arith) in
        let e = equal_difference (leg l distances y x) (leg l distances x y)
        (plain-finite _ (leg-plain y x hy hx)) (plain-finite _ (leg-plain x y hx hy)) (plain-clear _ (leg-plain y x hy hx))
        (plain-clear _ (leg-plain x y hx hy))
        (mirror mark y x hy hx) in
        rw (e, zero_twice) (turned_nothing y ys hy (omega arith))

    -- THE SHORT CUT
    pub reversal_nothing : (xs : List ℕ) → Below l xs → reversal_delta (leg l distances) xs ≡ zero64
    unfolding reversal_delta
    reversal_nothing [] b = refl
    reversal_nothing (x ∷ xs) b = turned_nothing x xs (over_none l x (omega arith)) (omega arith)

-- the same as code asks it: of a part of a list, under the mark
pub marked_nothing : (l : ℕ) (distances : List Float) (mark : Bool) → Square l distances → Marked l distances mark → mark ≡ true
    → (xs : List ℕ) → Visits l xs → (i e : ℕ) → reversal_delta (leg l distances) (slice i e xs) ≡ zero64
marked_nothing l distances mark square marked set xs visits i e =
    reversal_nothing l distances square marked.plain (sym marked.right ∙ set) (slice i e xs) (slice_below l i e xs (below_of l xs visits))
