-- The largest of a list is no less than any of its elements, and is one of them: of plain numbers it is plain, of whole numbers up to b a whole number up to b.
-- It is because a step keeps the larger of two (Fold).
use mathlib.Core.Path.{◌≡◌, refl}
use mathlib.Core.Bool.{Bool, true, false, not, cond}
use mathlib.Core.List.{List}
use mathlib.Core.Logic.{◌⊎◌, inl, inr}
use Prim.Native.Nat.{ℕ, ◌<◌}
use lib.Dec.{T}
use lib.ListN.{length, get_or}
use lib.Ieee.{Float, nan, lt, le}
use Rattle.numbers.specs.Value.{nought, ordered, is_whole}
use Rattle.numbers.specs.Plain.{plain}
use Rattle.numbers.specs.Total.{every, larger, largest}
use Rattle.numbers.proofs.Total as Total
use Rattle.numbers.proofs.Fold as Fold
use Rattle.numbers.proofs.Whole.{nought-is_whole}
use Rattle.numbers.proofs.Plain.{nought-plain}

one : (z x : Float) → (larger z x ≡ z) ⊎ (larger z x ≡ x)
one z x = go (lt z x)
  where
    go : (b : Bool) → (cond b x z ≡ z) ⊎ (cond b x z ≡ x)
    go true = inr refl
    go false = inl refl

pub larger-le : (z x : Float) → T (ordered z) → T (ordered x) → T (le z (larger z x)) × T (le x (larger z x))
larger-le z x h k = go (lt z x) (λ t. t) (λ t. t)
  where
    go : (b : Bool) → (T b → T (lt z x)) → (T (not b) → T (not (lt z x))) → T (le z (cond b x z)) × T (le x (cond b x z))
    go true u v = (Total.lt→le z x (u tt), Total.le_refl x k)
    go false u v = (Total.le_refl z h, Total.not_lt→le z x h k (v tt))

-- it is the start or an element, as a datum, so it passes what they all pass
pub largest_is : (xs : List Float) (z : Float) → (largest z xs ≡ z) ⊎ ((i : ℕ) × (i < length xs) × (largest z xs ≡ get_or xs i nan))
largest_is = Fold.chosen_is largest larger Fold.largest_none Fold.largest_more one

pub largest_passes : (t : Float → Bool) (xs : List Float) (z : Float) → T (t z) → T (every t xs) → T (t (largest z xs))
largest_passes = Fold.chosen_passes largest larger Fold.largest_none Fold.largest_more one

pub scale_plain : (xs : List Float) → T (every plain xs) → T (plain (largest nought xs))
scale_plain xs h = largest_passes plain xs nought nought-plain h

pub scale_whole : (b : ℕ) (xs : List Float) → T (every (is_whole b) xs) → T (is_whole b (largest nought xs))
scale_whole b xs h = largest_passes (is_whole b) xs nought (nought-is_whole b) h

-- it is no less than the start, and than each element
backward : (x y z : Float) → T (le y x) → T (le z y) → T (le z x)
backward x y z h k = Total.le_trans z y x k h

pub largest_start : (xs : List Float) (z : Float) → T (ordered z) → T (every ordered xs) → T (le z (largest z xs))
largest_start = Fold.chosen_start largest larger Fold.largest_none Fold.largest_more one (λ x y. le y x) Total.le_refl backward larger-le

pub largest-le : (xs : List Float) (z : Float) (i : ℕ) → T (ordered z) → T (every ordered xs) → i < length xs → T (le (get_or xs i nan) (largest z xs))
largest-le = Fold.chosen_best largest larger Fold.largest_none Fold.largest_more one (λ x y. le y x) Total.le_refl backward larger-le
