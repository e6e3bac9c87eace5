-- What lists tell that were not refused: each test of the table's 8 to 10 that passed is a fact. Assumes nothing.
use mathlib.Core.Path.{◌≡◌, refl}
use mathlib.Core.Logic.{◌≢◌}
use mathlib.Core.List.{List, [], ◌∷◌}
use mathlib.Core.Bool.{Bool, true, false, not}
use Prim.Native.Nat.{ℕ, ◌+◌, suc, ◌-◌, ◌*◌, ◌≤◌, ◌<◌}
use native.Mathlib.Omega.{arith}
use borrow.Author.Tests.{eqb-true, eqb-false, leb-true, ltb-true, ltb-false, not-true}
use lib.Dec.{eqb, leb, ltb}
use lib.ListN.{length, get_or, get_or-eq_default}
use Rattle.tests.specs.All.{all_at, passed, and_first, and_second}
use Rattle.lists.specs.Table.{Laid, sum, start_of, list_of}
use Rattle.lists.specs.Fine.{Apart, TableFine, ListsFine}
use Rattle.list_refusals.specs.Refused.{all_short, shape_ok, visit_ok, visits_ok, new_at, distinct, table_refusal, lists_refusal}
use Rattle.lists.proofs.Tables.{start_within, length_list, list_at}
use Rattle.list_refusals.proofs.Pigeonhole.{pigeonhole}

-- ---- 8

short_of : (lengths : List ℕ) → all_short lengths ≡ true → (r : ℕ) → get_or lengths r 0 ≤ 63
unfolding all_short
short_of lengths h r = at (ltb r (length lengths)) refl
  where
    at : (b : Bool) → ltb r (length lengths) ≡ b → get_or lengths r 0 ≤ 63
    at true e = leb-true _ _ (all_at (λ k. leb (get_or lengths k 0) 63) (length lengths) r (ltb-true _ _ e) h)
    at false e = rw (get_or-eq_default lengths 0 (ltb-false r (length lengths) e)) (omega arith)

sum-short : (lengths : List ℕ) → ((r : ℕ) → get_or lengths r 0 ≤ 63) → sum lengths ≤ 63 * length lengths
sum-short [] h = omega arith
sum-short (n ∷ lengths) h = let rest = sum-short lengths (λ r. h (suc r)) in let first : n ≤ 63 = h 0 in omega arith

shape_short : (visits lengths : List ℕ) → shape_ok visits lengths ≡ true → all_short lengths ≡ true
unfolding shape_ok
shape_short visits lengths h =
    and_second (eqb (sum lengths) (length visits)) (all_short lengths) (and_second (leb (length lengths) 16) _ h)

laid_of : (visits lengths : List ℕ) → shape_ok visits lengths ≡ true → Laid visits lengths
unfolding shape_ok
laid_of visits lengths h =
    let few : length lengths ≤ 16 = leb-true _ _ (and_first (leb (length lengths) 16) _ h) in
    let rest = and_second (leb (length lengths) 16) _ h in
    let add-up : sum lengths ≡ length visits = eqb-true _ _ (and_first (eqb (sum lengths) (length visits)) _ rest) in
    let most = sum-short lengths (short_of lengths (shape_short visits lengths h)) in
    record { few = few; add_up = add-up; size = omega arith }

-- ---- 9 and 10

new_of : (visits : List ℕ) (j : ℕ) → new_at visits j ≡ true → (i : ℕ) → i < j → get_or visits i 0 ≢ get_or visits j 0
unfolding new_at
new_of visits j h i lt = eqb-false _ _ (not-true _ (all_at (λ k. not (eqb (get_or visits k 0) (get_or visits j 0))) j i lt h))

apart_of : (visits : List ℕ) → distinct visits ≡ true → Apart visits
unfolding distinct
apart_of visits h i j lt there = new_of visits j (all_at (λ k. new_at visits k) (length visits) j there h) i lt

office_of : (depots l : ℕ) (visits : List ℕ) → visits_ok depots l visits ≡ true
    → (k : ℕ) → k < length visits → (depots ≤ get_or visits k 0) × (get_or visits k 0 < l)
unfolding visits_ok visit_ok
office_of depots l visits h k lt =
    let here = all_at (λ k. visit_ok depots l (get_or visits k 0)) (length visits) k lt h in
    let v = get_or visits k 0 in
    (leb-true _ _ (and_first (leb depots v) (ltb v l) here), ltb-true _ _ (and_second (leb depots v) (ltb v l) here))

-- so that each has its place among the 64 that may be seen
pub offices_small : (depots l : ℕ) (visits : List ℕ) → l ≤ 64 → visits_ok depots l visits ≡ true → (k : ℕ) → k < length visits → get_or visits k 0 < 64
offices_small depots l visits few h k lt = omega (arith, (office_of depots l visits h k lt).1)

-- ---- the laws

pub table_fine : (depots l : ℕ) (visits lengths : List ℕ) → table_refusal depots l visits lengths ≡ 0 → TableFine depots l visits lengths
unfolding table_refusal
table_fine depots l visits lengths h =
    let eight = passed _ _ _ h tt in
    let nine = passed _ _ _ eight.1 tt in
    let ten = passed _ _ _ nine.1 tt in
    let office : (k : ℕ) → k < length visits → (depots ≤ get_or visits k 0) × (get_or visits k 0 < l) = office_of depots l visits nine.0 in
    let apart : Apart visits = apart_of visits ten.0 in
    record {
      laid = laid_of visits lengths eight.0;
      short = short_of lengths (shape_short visits lengths eight.0);
      office = λ k lt. (office k lt).0;
      below = λ k lt. (office k lt).1;
      apart = apart;
      at_most =
          pigeonhole (l - depots) (length visits) (λ k. get_or visits k 0 - depots) (λ k lt. omega (arith, (office k lt).0, (office k lt).1))
          (λ i j lt there e. apart i j lt there (omega (arith, (office i (omega arith)).0, (office j there).0)));
    }

pub lists_fine : (depots l : ℕ) (visits lengths : List ℕ) (asked : ℕ) → lists_refusal depots l visits lengths asked ≡ 0 → ListsFine depots l visits lengths asked
unfolding lists_refusal
lists_fine depots l visits lengths asked h =
    let eight = passed _ _ _ h tt in
    record { table = table_fine depots l visits lengths eight.1; there = ltb-true _ _ eight.0 }

-- ---- and of one list

module _ (depots l : ℕ) (visits lengths : List ℕ) (fine : TableFine depots l visits lengths) (r : ℕ) where
  -- each of its visits is an office
  pub list_office : (k : ℕ) → k < length (list_of visits lengths r) → (depots ≤ get_or (list_of visits lengths r) k 0) × (get_or (list_of visits lengths r) k 0 < l)
  list_office k h =
      let add-up = fine.laid.add_up in
      let there : k < get_or lengths r 0 = rw (length_list visits lengths add-up r) at h in
      let inside : start_of lengths r + k < length visits = omega (arith, start_within lengths r) in
      rw (list_at visits lengths add-up r k there) (fine.office _ inside, fine.below _ inside)

  -- and none stands there twice
  pub list_apart : Apart (list_of visits lengths r)
  list_apart i j h k =
      let add-up = fine.laid.add_up in
      let there : j < get_or lengths r 0 = rw (length_list visits lengths add-up r) at k in
      let inside : start_of lengths r + j < length visits = omega (arith, start_within lengths r) in
      rw (list_at visits lengths add-up r i (omega arith), list_at visits lengths add-up r j there) (fine.apart _ _ (omega arith) inside)
