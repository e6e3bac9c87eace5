-- Sums over a list: any measure of the visits, added up. For the laws of what an edit keeps, and for the engines. Assumes nothing.
use Rattle.std.specs.Prelude.{◌≡◌, refl, Bool, true, false, ℕ, zero, suc, ◌+◌, ◌≤◌, ◌<◌, eqb, length, get_or, set}
use mathlib.Core.List.{List, [], ◌∷◌, ◌++◌, reverse, reverse-cons}
use Rattle.std.proofs.Common.{suc-le-suc, arith}

-- what f gives for each entry of a list, added up (01: 'a list's load, its visits' demands added up', with the demand for f)
abbrev pub total : {A : Type 0} → (A → ℕ) → List A → ℕ
total f [] = 0
total f (x ∷ xs) = f x + total f xs

-- 1 for true, 0 for false
abbrev pub bit : Bool → ℕ
bit true = 1
bit false = 0

-- how often an office stands in a list (01, demand 3: 'exactly the offices of the lists lent, each once')
abbrev pub count : ℕ → List ℕ → ℕ
count office = total (λ visit. bit (eqb office visit))

-- ys has the visits of xs, each as often, in any order: every total agrees
abbrev pub SameVisits : List ℕ → List ℕ → Type 0
SameVisits xs ys = (f : ℕ → ℕ) → total f ys ≡ total f xs

-- ---- laws

-- a total of a concatenation is the sum of the totals
pub total_append : {A : Type 0} (f : A → ℕ) (xs ys : List A) → total f (xs ++ ys) ≡ total f xs + total f ys
total_append f [] ys = omega arith
total_append f (x ∷ xs) ys = let ih = total_append f xs ys in omega arith

-- a total of a reversal is the total
pub total-reverse : {A : Type 0} (f : A → ℕ) (xs : List A) → total f (reverse xs) ≡ total f xs
total-reverse f [] = refl
total-reverse f (x ∷ xs) =
    let ih = total-reverse f xs in
    rw (reverse-cons, total_append) (omega arith)

-- the length is the total of 1 for each entry
pub total_one : {A : Type 0} (xs : List A) → total (λ x. 1) xs ≡ length xs
total_one [] = refl
total_one (x ∷ xs) = let ih = total_one xs in omega arith

-- one entry stored anew: what it had goes, what it has comes
pub total-set : {A : Type 0} (f : A → ℕ) (xs : List A) (i : ℕ) (y z : A) → i < length xs
    → total f (set xs i y) + f (get_or xs i z) ≡ total f xs + f y
total-set f [] i y z h = omega arith
total-set f (x ∷ xs) zero y z h = omega arith
total-set f (x ∷ xs) (suc i) y z h = let ih : total f (set xs i y) + f (get_or xs i z) ≡ total f xs + f y = total-set f xs i y z (omega arith) in omega arith

-- measures that agree have one total
pub total_cong : {A : Type 0} (f g : A → ℕ) (xs : List A) → ((x : A) → f x ≡ g x) → total f xs ≡ total g xs
total_cong f g [] e = refl
total_cong f g (x ∷ xs) e = let ih = total_cong f g xs e in omega (arith, e x)

-- no part is more than the whole
pub part_le : {A : Type 0} (f : A → ℕ) (xs : List A) (i : ℕ) (z : A) → i < length xs → f (get_or xs i z) ≤ total f xs
part_le f [] i z h = absurd (omega arith)
part_le f (x ∷ xs) zero z h = omega arith
part_le f (x ∷ xs) (suc i) z h = let ih = part_le f xs i z (omega arith) in omega arith

-- a total of nothing but 0 is 0
pub total_none : {A : Type 0} (f : A → ℕ) (xs : List A) (z : A) → ((i : ℕ) → i < length xs → f (get_or xs i z) ≡ 0) → total f xs ≡ 0
total_none f [] z h = refl
total_none f (x ∷ xs) z h =
    let first : f x ≡ 0 = h 0 (omega arith) in
    let ih = total_none f xs z (λ i k. h (suc i) (suc-le-suc k)) in
    omega arith

-- for `simp`
pub ruleset sums = (total_append, total-reverse)
