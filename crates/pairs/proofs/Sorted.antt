-- Lists in an order: those that `range`, `map` and `each` list are, where what is listed for a number stands before what is listed for a greater one.
-- Assumes nothing.
use mathlib.Core.Path.{◌≡◌, sym}
use mathlib.Core.Logic.{◌⊎◌, inl, inr}
use mathlib.Core.List.{List, [], ◌∷◌, ◌++◌, map}
use Prim.Native.Nat.{ℕ, zero, suc, ◌-◌, ◌<◌}
use native.Mathlib.Omega.{arith}
use Rattle.descent.specs.Order.{◌∈◌, here, there, from_on, range, each}
use Rattle.descent.proofs.Members.{in_either, from_on_in, range_in, each_in, map_in}

-- each stands before all behind it
abbrev pub Sorted : {A : Type 0} → (A → A → Type 0) → List A → Type 0
Sorted R [] = Unit {0}
Sorted {A} R (x ∷ xs) = ((y : A) → y ∈ xs → R x y) × Sorted R xs

pub sorted_append : {A : Type 0} (R : A → A → Type 0) (xs ys : List A) → Sorted R xs → Sorted R ys → ((a b : A) → a ∈ xs → b ∈ ys → R a b) → Sorted R (xs ++ ys)
sorted_append R [] ys s t h = t
sorted_append {A} R (x ∷ xs) ys s t h =
    ((λ y i. go y (in_either xs ys y i)), sorted_append R xs ys s.1 t (λ a b i. h a b (there i)))
  where
    go : (y : A) → (y ∈ xs) ⊎ (y ∈ ys) → R x y
    go y (inl i) = s.0 y i
    go y (inr i) = h x y here i

from_on_sorted : (a n : ℕ) → Sorted ◌<◌ (from_on a n)
from_on_sorted a zero = tt
from_on_sorted a (suc n) = ((λ k i. let b = from_on_in (suc a) n k i in omega arith), from_on_sorted (suc a) n)

pub range_sorted : (a b : ℕ) → Sorted ◌<◌ (range a b)
range_sorted a b = from_on_sorted a (b - a)

-- all numbers below n but one
pub others_sorted : (k n : ℕ) → Sorted ◌<◌ (range 0 k ++ range (suc k) n)
others_sorted k n =
    sorted_append ◌<◌ (range 0 k) (range (suc k) n) (range_sorted 0 k) (range_sorted (suc k) n)
    (λ a b i j. let x = range_in 0 k a i in let y = range_in (suc k) n b j in omega arith)

pub sorted_map : {A B : Type 0} (R : A → A → Type 0) (Q : B → B → Type 0) (f : A → B) (xs : List A) → Sorted R xs → ((a b : A) → R a b → Q (f a) (f b))
    → Sorted Q (map f xs)
sorted_map R Q f [] s h = tt
sorted_map {A} {B} R Q f (x ∷ xs) s h = ((λ y i. go y (map_in f xs y i)), sorted_map R Q f xs s.1 h)
  where
    go : (y : B) → ((a : A) × (a ∈ xs) × (f a ≡ y)) → Q (f x) y
    go y r = rw (sym r.2) (h x r.0 (s.0 r.0 r.1))

pub sorted_each : {A B : Type 0} (R : A → A → Type 0) (Q : B → B → Type 0) (f : A → List B) (xs : List A) → Sorted R xs
    → ((a : A) → Sorted Q (f a)) → ((a b : A) (x y : B) → R a b → x ∈ f a → y ∈ f b → Q x y) → Sorted Q (each xs f)
sorted_each R Q f [] s t h = tt
sorted_each R Q f (x ∷ xs) s t h =
    sorted_append Q (f x) (each xs f) (t x) (sorted_each R Q f xs s.1 t h)
    (λ a b i j. let r = each_in f xs b j in h x r.0 a b (s.0 r.0 r.1) i r.2)
