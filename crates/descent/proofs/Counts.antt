-- How many candidates a sweep of 2-opt, Or-opt and 3-opt tries on a list of n (02, F-6). Assumes nothing.
use mathlib.Core.Path.{◌≡◌, refl, sym, ap, ap₂, ◌∙◌}
use mathlib.Core.List.{List, [], ◌∷◌, ◌++◌, map}
use Prim.Native.Nat.{ℕ, zero, suc, ◌+◌, ◌-◌, ◌*◌, ◌/◌, ◌≤◌, ◌<◌}
use native.Mathlib.Omega.{arith}
use native.Mathlib.Nat.{mul_assoc, mul_comm, suc-mul, mul-suc}
use borrow.Author.Tests.{le-leb, lt-leb}
use lib.ListN.{length, length-append}
use Rattle.edits.specs.Total.{total}
use Rattle.descent.specs.Order.{◌∈◌, here, there, from_on, range, each}
use Rattle.descent.specs.Permitted.{seven}
use Rattle.descent.specs.Within.{Reversal, reversals, Piece, pieces, Cut, Reconnection, cuts}
use Rattle.descent.proofs.Members.{range_in}

-- ---- lengths of lists made for each

pub length-from_on : (a n : ℕ) → length (from_on a n) ≡ n
length-from_on a zero = refl
length-from_on a (suc n) = ap suc (length-from_on (suc a) n)

pub length-range : (a b : ℕ) → length (range a b) ≡ b - a
length-range a b = length-from_on a (b - a)

pub length_mapped : {A B : Type 0} (f : A → B) (xs : List A) → length (map f xs) ≡ length xs
length_mapped f [] = refl
length_mapped f (x ∷ xs) = ap suc (length_mapped f xs)

pub length-each : {A B : Type 0} (xs : List A) (f : A → List B) → length (each xs f) ≡ total (λ x. length (f x)) xs
length-each [] f = refl
length-each (x ∷ xs) f = let ih = length-each xs f in rw (length-append (f x) (each xs f)) (omega arith)

-- a sum whose entries are known
pub total_known : {A : Type 0} (f g : A → ℕ) (xs : List A) → ((x : A) → x ∈ xs → f x ≡ g x) → total f xs ≡ total g xs
total_known f g [] h = refl
total_known f g (x ∷ xs) h = let ih = total_known f g xs (λ y k. h y (there k)) in omega (arith, h x here)

pub total_same : {A : Type 0} (c : ℕ) (xs : List A) → total (λ x. c) xs ≡ length xs * c
total_same c [] = omega arith
total_same c (x ∷ xs) = let ih = total_same c xs in omega (arith, suc-mul (length xs) c)

-- ---- 1 + 2 + .. + k, and the sum of these

tri : ℕ → ℕ
tri zero = 0
tri (suc k) = suc k + tri k

tri_twice : (k : ℕ) → 2 * tri k ≡ k * suc k
unfolding tri
tri_twice zero = refl
tri_twice (suc k) = let ih = tri_twice k in omega (arith, suc-mul k (suc (suc k)), mul-suc k (suc k))

tet : ℕ → ℕ
tet zero = 0
tet (suc k) = tri (suc k) + tet k

tet_six : (k : ℕ) → 6 * tet k ≡ k * (suc k * suc (suc k))
unfolding tet
tet_six zero = refl
tet_six (suc k) =
    let ih = tet_six k in
    let Q = suc k * suc (suc k) in
    let R = suc (suc k) * suc (suc (suc k)) in
    let e : suc k * R ≡ k * Q + 3 * Q = by_parts k in
    omega (arith, tri_twice (suc k))
  where
    by_parts : (k : ℕ) → suc k * (suc (suc k) * suc (suc (suc k))) ≡ k * (suc k * suc (suc k)) + 3 * (suc k * suc (suc k))
    by_parts k = sym (mul_assoc (suc k) (suc (suc k)) (suc (suc (suc k)))) ∙ mul_comm (suc k * suc (suc k)) (suc (suc (suc k))) ∙ split (suc k * suc (suc k))
      where
        split : (Q : ℕ) → suc (suc (suc k)) * Q ≡ k * Q + 3 * Q
        split Q = omega (arith, suc-mul (suc (suc k)) Q, suc-mul (suc k) Q, suc-mul k Q)

descending : (n a k : ℕ) → n ≡ a + suc k → total (λ i. n - suc i) (from_on a k) ≡ tri k
unfolding tri
descending n a zero e = refl
descending n a (suc k) e = let ih = descending n (suc a) k (omega arith) in omega arith

descending_tri : (n a k : ℕ) → n ≡ a + k → total (λ i. tri (n - i)) (from_on a k) ≡ tet k
unfolding tet
descending_tri n a zero e = refl
descending_tri n a (suc k) e =
    let ih = descending_tri n (suc a) k (omega arith) in
    let d : n - a ≡ suc k = omega arith in
    omega (arith, ap tri d)

-- ---- 2-opt: n(n-1)/2

abbrev turns_from : ℕ → ℕ → List Reversal
turns_from n i = map (λ j. record { first = i; last = j }) (range (suc i) n)

turns : (n i : ℕ) → length (turns_from n i) ≡ n - suc i
turns n i = length_mapped {B = Reversal} (λ j. record { first = i; last = j }) (range (suc i) n) ∙ length-range (suc i) n

pub two_opt_tries : (n : ℕ) → length (reversals n) ≡ n * (n - 1) / 2
two_opt_tries zero = refl
two_opt_tries (suc m) =
    let n = suc m in
    let k = n - 1 - 0 in
    let rows = length-each (range 0 (n - 1)) (turns_from n) in
    let sum = total_known (λ i. length (turns_from n i)) (λ i. n - suc i) (range 0 (n - 1)) (λ i h. turns n i) in
    let d = descending n 0 k (omega arith) in
    let product : suc k * k ≡ n * (n - 1) = ap₂ (λ (a b : ℕ). a * b) (omega arith) (omega arith) in
    omega (arith, tri_twice k, mul_comm k (suc k), rows ∙ sum ∙ d)

-- ---- Or-opt with the reach of the soft search, for each size: (n-p+1)(n-p)

abbrev pieces_from : ℕ → ℕ → ℕ → List Piece
pieces_from n p from = map (λ to. record { size = p; from = from; to = to }) (range 0 from ++ range (suc (from + p)) (suc n))

pub or_opt_tries : (n p : ℕ) → length (pieces (λ n p. n) n p) ≡ (n - p + 1) * (n - p)
or_opt_tries n p =
    length-each (range 0 (suc (n - p))) (pieces_from n p)
    ∙ total_known (λ from. length (pieces_from n p from)) (λ from. n - p) (range 0 (suc (n - p))) one
    ∙ total_same (n - p) (range 0 (suc (n - p)))
    ∙ ap (λ (k : ℕ). k * (n - p)) (length-range 0 (suc (n - p)) ∙ omega arith)
  where
    one : (from : ℕ) → from ∈ range 0 (suc (n - p)) → length (pieces_from n p from) ≡ n - p
    one from h =
        let r = range_in 0 (suc (n - p)) from h in
        length_mapped {B = Piece} (λ to. record { size = p; from = from; to = to }) (range 0 from ++ range (suc (from + p)) (suc n))
        ∙ length-append (range 0 from) (range (suc (from + p)) (suc n))
        ∙ omega (arith, length-range 0 from, length-range (suc (from + p)) (suc n))

-- ---- 3-opt: seven times n(n-1)(n-2)/6, and 0 for n below 4

abbrev thirds : ℕ → ℕ → ℕ → List Cut
thirds n i j = map (λ k. record { i = i; j = j; k = k }) (range (suc j) n)

abbrev seconds : ℕ → ℕ → List Cut
seconds n i = each (range (suc i) (n - 1)) (thirds n i)

third : (n i j : ℕ) → length (thirds n i j) ≡ n - suc j
third n i j = length_mapped {B = Cut} (λ k. record { i = i; j = j; k = k }) (range (suc j) n) ∙ length-range (suc j) n

second : (n i : ℕ) → i ∈ range 0 (n - 2) → length (seconds n i) ≡ tri (n - 2 - i)
second n i h =
    let r = range_in 0 (n - 2) i h in
    length-each (range (suc i) (n - 1)) (thirds n i)
    ∙ total_known (λ j. length (thirds n i j)) (λ j. n - suc j) (range (suc i) (n - 1)) (λ j k. third n i j)
    ∙ descending n (suc i) (n - 1 - suc i) (omega arith)
    ∙ ap tri (omega arith)

cuts_many : (n : ℕ) → 4 ≤ n → length (cuts n) ≡ tet (n - 2 - 0)
cuts_many n four =
    rw (le-leb 4 n four, cuts)
    (length-each (range 0 (n - 2)) (seconds n)
    ∙ total_known (λ i. length (seconds n i)) (λ i. tri (n - 2 - i)) (range 0 (n - 2)) (second n)
    ∙ descending_tri (n - 2) 0 (n - 2 - 0) (omega arith))

pub three_opt-cuts : (n : ℕ) → 4 ≤ n → length (cuts n) ≡ n * (n - 1) * (n - 2) / 6
three_opt-cuts n h =
    let k = n - 2 - 0 in
    let t = tet_six k in
    let e : k * (suc k * suc (suc k)) ≡ n * (n - 1) * (n - 2) =
    mul_comm k (suc k * suc (suc k)) ∙ ap (λ (z : ℕ). z * k) (mul_comm (suc k) (suc (suc k)))
    ∙ ap₂ (λ (a b : ℕ). a * b) (ap₂ (λ (a b : ℕ). a * b) (omega arith) (omega arith)) (omega arith) in
    omega (arith, cuts_many n h)

pub three_opt_few : (n : ℕ) → n < 4 → length (cuts n) ≡ 0
three_opt_few n h = rw (lt-leb 4 n h, cuts) refl

abbrev ways : Cut → List Reconnection
ways cut = map (λ way. record { cut = cut; way = way }) seven

pub three_opt_tries : (n : ℕ) → length (each (cuts n) ways) ≡ 7 * length (cuts n)
three_opt_tries n = length-each (cuts n) ways ∙ total_same 7 (cuts n) ∙ mul_comm (length (cuts n)) 7

-- 02, F-6: 'For n = 4 these are 6, 20 and 28'
pub four : (length (reversals 4) ≡ 6) × (length (each (1 ∷ 2 ∷ 3 ∷ []) (pieces (λ n p. n) 4)) ≡ 20) × (length (each (cuts 4) ways) ≡ 28)
four = (refl, refl, refl)
