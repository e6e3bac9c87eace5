-- The length of a way put together from pieces. Assumes nothing.
use mathlib.Core.Path.{◌≡◌, refl}
use mathlib.Core.List.{List, [], ◌∷◌, ◌++◌, reverse, append_assoc, reverse-cons}
use Prim.Native.Nat.{ℕ, ◌+◌, ◌≤◌}
use native.Mathlib.Omega.{arith}
use lib.ListN.{length, length-reverse}
use Rattle.edits.specs.Total.{total}
use Rattle.descent.specs.Sum.{walk}

-- ---- definitions

-- the way depot, xs, depot; the empty list has the leg from the depot to itself
abbrev pub circuit : (ℕ → ℕ → ℕ) → ℕ → List ℕ → ℕ
circuit d depot xs = walk d depot (xs ++ depot ∷ [])

-- the first and the last visit of a list; z where there is none
abbrev pub first : ℕ → List ℕ → ℕ
first z [] = z
first z (x ∷ xs) = x

abbrev pub end : ℕ → List ℕ → ℕ
end z [] = z
end z (x ∷ xs) = end x xs

-- the legs from visit to visit inside a list
abbrev pub inside : (ℕ → ℕ → ℕ) → List ℕ → ℕ
inside d [] = 0
inside d (x ∷ xs) = walk d x xs

-- the legs driven the other way
abbrev pub back : (ℕ → ℕ → ℕ) → ℕ → ℕ → ℕ
back d a b = d b a

-- the leg from a into a piece; an empty piece has none
abbrev pub enter : (ℕ → ℕ → ℕ) → ℕ → List ℕ → ℕ
enter d a [] = 0
enter d a (x ∷ xs) = d a x

-- the pieces one after another
abbrev pub flat : List (List ℕ) → List ℕ
flat [] = []
flat (P ∷ Ps) = P ++ flat Ps

-- the legs from a to the first piece, from piece to piece, and from the last to z; an empty piece is passed over
abbrev pub joins : (ℕ → ℕ → ℕ) → ℕ → List (List ℕ) → ℕ → ℕ
joins d a [] z = d a z
joins d a (P ∷ Ps) z = enter d a P + joins d (end a P) Ps z

-- ---- laws

pub walk_append : (d : ℕ → ℕ → ℕ) (a : ℕ) (xs ys : List ℕ) → walk d a (xs ++ ys) ≡ walk d a xs + walk d (end a xs) ys
walk_append d a [] ys = omega arith
walk_append d a (x ∷ xs) ys = let ih = walk_append d x xs ys in omega arith

pub end_append : (a : ℕ) (xs ys : List ℕ) → end a (xs ++ ys) ≡ end (end a xs) ys
end_append a [] ys = refl
end_append a (x ∷ xs) ys = end_append x xs ys

pub walk-enter : (d : ℕ → ℕ → ℕ) (a : ℕ) (xs : List ℕ) → walk d a xs ≡ enter d a xs + inside d xs
walk-enter d a [] = refl
walk-enter d a (x ∷ xs) = refl

-- a piece turned round: it is entered at its last visit, left at its first, and its legs are driven the other way
pub end-reverse : (a : ℕ) (xs : List ℕ) → end a (reverse xs) ≡ first a xs
end-reverse a [] = refl
end-reverse a (x ∷ xs) = rw (reverse-cons, end_append)

pub walk-reverse : (d : ℕ → ℕ → ℕ) (a x : ℕ) (xs : List ℕ) → walk d a (reverse (x ∷ xs)) ≡ d a (end x xs) + walk (back d) x xs
walk-reverse d a x [] = refl
walk-reverse d a x (y ∷ ys) =
    let ih = walk-reverse d a y ys in
    rw (reverse-cons x (y ∷ ys), walk_append, end-reverse a (y ∷ ys)) (omega arith)

pub first_append : (z : ℕ) (xs ys : List ℕ) → first z (xs ++ ys) ≡ first (first z ys) xs
first_append z [] ys = refl
first_append z (x ∷ xs) ys = refl

pub first-reverse : (z : ℕ) (xs : List ℕ) → first z (reverse xs) ≡ end z xs
first-reverse z [] = refl
first-reverse z (x ∷ []) = refl
first-reverse z (x ∷ y ∷ ys) = let ih = first-reverse x (y ∷ ys) in rw (reverse-cons x (y ∷ ys), first_append) ih

pub inside_append : (d : ℕ → ℕ → ℕ) (a : ℕ) (xs ys : List ℕ) → 1 ≤ length xs → inside d (xs ++ ys) ≡ inside d xs + walk d (end a xs) ys
inside_append d a [] ys h = omega arith
inside_append d a (x ∷ xs) ys h = walk_append d x xs ys

pub inside-reverse : (d : ℕ → ℕ → ℕ) (xs : List ℕ) → inside d (reverse xs) ≡ inside (back d) xs
inside-reverse d [] = refl
inside-reverse d (x ∷ []) = refl
inside-reverse d (x ∷ y ∷ ys) =
    let ih = inside-reverse d (y ∷ ys) in
    let long : 1 ≤ length (reverse (y ∷ ys)) = rw length-reverse (omega arith) in
    rw (reverse-cons x (y ∷ ys), inside_append d x (reverse (y ∷ ys)), end-reverse x (y ∷ ys)) (omega arith)

-- THE LAW: a way through pieces is the legs between them and the legs inside them
pub walk_pieces : (d : ℕ → ℕ → ℕ) (a : ℕ) (Ps : List (List ℕ)) (z : ℕ) (zs : List ℕ)
    → walk d a (flat Ps ++ z ∷ zs) ≡ joins d a Ps z + total (inside d) Ps + walk d z zs
walk_pieces d a [] z zs = omega arith
walk_pieces d a (P ∷ Ps) z zs =
    let ih = walk_pieces d (end a P) Ps z zs in
    rw (append_assoc P, walk_append) (omega (arith, walk-enter d a P))
