-- What stands in the lists that the engines go through: a number of a range, an entry made for each. Assumes nothing.
use mathlib.Core.Path.{◌≡◌, refl}
use mathlib.Core.Logic.{◌⊎◌, inl, inr}
use mathlib.Core.Bool.{Bool, true, false, ◌&&◌}
use mathlib.Core.Option.{none, some}
use mathlib.Core.List.{List, [], ◌∷◌, ◌++◌, map}
use Prim.Native.Nat.{ℕ, zero, suc, ◌+◌, ◌-◌, ◌≤◌, ◌<◌}
use native.Mathlib.Omega.{arith}
use native.Mathlib.Decide.{ℕ_discrete}
use lib.Dec.{T}
use Rattle.descent.specs.Order.{◌∈◌, here, there, from_on, range, each}

-- ---- tests

pub clash : {A : Type 0} {a : A} → none ≡ some a → ⊥
clash e = let z : ◌≡◌ {A = ℕ} 0 1 = cc in omega arith

pub unlike : {b : Bool} → b ≡ true → b ≡ false → ⊥
unlike p q = let z : ◌≡◌ {A = ℕ} 0 1 = cc in omega arith

-- a test that can't hold fails
pub fails : (b : Bool) → (b ≡ true → ⊥) → b ≡ false
fails true h = absurd (h refl)
fails false h = refl

pub T_true : (b : Bool) → T b → b ≡ true
T_true true t = refl
T_true false t = absurd t

pub true-T : (b : Bool) → b ≡ true → T b
true-T true e = tt
true-T false e = let n : ◌≡◌ {A = ℕ} 0 1 = cc in absurd (omega arith)

pub and_parts : (a b : Bool) → (a && b) ≡ true → (a ≡ true) × (b ≡ true)
and_parts true b e = (refl, e)
and_parts false b e = let n : ◌≡◌ {A = ℕ} 0 1 = cc in absurd (omega arith)

pub and_both : (a b : Bool) → a ≡ true → b ≡ true → (a && b) ≡ true
and_both a b p q = cc

-- both together do not hold and the second does
pub and_first : (a b : Bool) → (a && b) ≡ false → b ≡ true → a ≡ false
and_first true b e p = let n : ◌≡◌ {A = ℕ} 0 1 = cc in absurd (omega arith)
and_first false b e p = refl

-- ---- members

pub not_in : {A B : Type 0} {x : A} → x ∈ [] → B
not_in = elim [ ]

pub in_cons : {A : Type 0} (y : A) (ys : List A) (x : A) → x ∈ y ∷ ys → (x ≡ y) ⊎ (x ∈ ys)
in_cons y ys x here = inl refl
in_cons y ys x (there h) = inr h

pub in_left : {A : Type 0} {x : A} {xs : List A} (ys : List A) → x ∈ xs → x ∈ xs ++ ys
in_left ys here = here
in_left ys (there h) = there (in_left ys h)

pub in_right : {A : Type 0} {x : A} (xs : List A) {ys : List A} → x ∈ ys → x ∈ xs ++ ys
in_right [] h = h
in_right (y ∷ xs) h = there (in_right xs h)

pub in_either : {A : Type 0} (xs ys : List A) (x : A) → x ∈ xs ++ ys → (x ∈ xs) ⊎ (x ∈ ys)
in_either [] ys x h = inr h
in_either (y ∷ xs) ys x here = inl here
in_either (y ∷ xs) ys x (there h) = go (in_either xs ys x h)
  where
    go : (x ∈ xs) ⊎ (x ∈ ys) → (x ∈ y ∷ xs) ⊎ (x ∈ ys)
    go (inl k) = inl (there k)
    go (inr k) = inr k

pub in_from_on : (a n k : ℕ) → a ≤ k → k < a + n → k ∈ from_on a n
in_from_on a zero k h l = absurd (omega arith)
in_from_on a (suc n) k h l = go (in_from_on (suc a) n k) (ℕ_discrete k a)
  where
    go : (suc a ≤ k → k < suc a + n → k ∈ from_on (suc a) n) → Dec (k ≡ a) → k ∈ a ∷ from_on (suc a) n
    go rest (yes e) = rw e here
    go rest (no ne) = there (rest (omega arith) (omega arith))

pub from_on_in : (a n k : ℕ) → k ∈ from_on a n → (a ≤ k) × (k < a + n)
from_on_in a (suc n) k here = (omega arith, omega arith)
from_on_in a (suc n) k (there h) = let b = from_on_in (suc a) n k h in (omega arith, omega arith)
from_on_in a zero k x' = elim x' [ ]

pub in_range : (a b k : ℕ) → a ≤ k → k < b → k ∈ range a b
in_range a b k h l = in_from_on a (b - a) k h (omega arith)

pub range_in : (a b k : ℕ) → k ∈ range a b → (a ≤ k) × (k < b)
range_in a b k h = let l = from_on_in a (b - a) k h in (omega arith, omega arith)

pub in_each : {A B : Type 0} (f : A → List B) (xs : List A) (a : A) (b : B) → a ∈ xs → b ∈ f a → b ∈ each xs f
in_each f (x ∷ xs) a b here k = in_left (each xs f) k
in_each f (x ∷ xs) a b (there h) k = in_right (f x) (in_each f xs a b h k)
in_each {A = A} {B = B} f [] a b x'' k = elim x'' [ ]

pub each_in : {A B : Type 0} (f : A → List B) (xs : List A) (b : B) → b ∈ each xs f → (a : A) × (a ∈ xs) × (b ∈ f a)
each_in {A} f (x ∷ xs) b h = go (each_in f xs b) (in_either (f x) (each xs f) b h)
  where
    go : (b ∈ each xs f → (a : A) × (a ∈ xs) × (b ∈ f a)) → (b ∈ f x) ⊎ (b ∈ each xs f) → (a : A) × (a ∈ x ∷ xs) × (b ∈ f a)
    go rest (inl k) = (x, here, k)
    go rest (inr k) = let r = rest k in (r.0, there r.1, r.2)
each_in {A = A} {B = B} f [] b h = elim h [ ]

pub in_map : {A B : Type 0} (f : A → B) (xs : List A) (a : A) → a ∈ xs → f a ∈ map f xs
in_map f (x ∷ xs) a here = here
in_map f (x ∷ xs) a (there h) = there (in_map f xs a h)
in_map {A = A} {B = B} f [] a x' = elim x' [ ]

pub map_in : {A B : Type 0} (f : A → B) (xs : List A) (b : B) → b ∈ map f xs → (a : A) × (a ∈ xs) × (f a ≡ b)
map_in f (x ∷ xs) b here = (x, here, refl)
map_in f (x ∷ xs) b (there h) = let r = map_in f xs b h in (r.0, there r.1, r.2)
map_in {A = A} {B = B} f [] b x' = elim x' [ ]
