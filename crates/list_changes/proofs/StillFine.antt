-- Lists that were not refused stay so through every edit: they have the same visits, and 8 to 10 but for the lengths speak of the visits alone. Different
-- offices are those of which none stands there twice, and how often an office stands there is a total. Assumes nothing.
use mathlib.Core.Path.{◌≡◌, refl, sym, ap, ◌∙◌}
use mathlib.Core.Logic.{◌≢◌}
use mathlib.Core.List.{List, [], ◌∷◌}
use Prim.Native.Nat.{ℕ, zero, suc, ◌-◌, ◌≤◌, ◌<◌}
use native.Mathlib.Decide.{ℕ_discrete}
use native.Mathlib.Omega.{arith}
use borrow.Author.Tests.{le-leb, lt-ltb, leb-true, ltb-true, eq-eqb, ne_eqb}
use lib.Dec.{eqb, leb, ltb}
use lib.ListN.{length, get_or}
use Rattle.edits.specs.Total.{bit, count, SameVisits, part_le, total_none}
use Rattle.edits.proofs.Kept.{same_length, same_count, same_each}
use Rattle.lists.proofs.Tables.{start_within}
use Rattle.list_changes.specs.Edits.{Edited}
use Rattle.lists.specs.Fine.{Apart, TableFine}

-- an office that stands nowhere
count_none : (office : ℕ) (xs : List ℕ) → ((i : ℕ) → i < length xs → office ≢ get_or xs i 0) → count office xs ≡ 0
count_none office xs h = total_none (λ visit. bit (eqb office visit)) xs 0 (λ i k. ap bit (ne_eqb office (get_or xs i 0) (h i k)))

once : (office : ℕ) (xs : List ℕ) → Apart xs → count office xs ≤ 1
once office [] apart = omega arith
once office (x ∷ xs) apart = by_first (ℕ_discrete office x) (once office xs (λ i j h k. apart (suc i) (suc j) (omega arith) (omega arith)))
  where
    by_first : Dec (office ≡ x) → count office xs ≤ 1 → count office (x ∷ xs) ≤ 1
    by_first (yes e) rest =
        let none : count office xs ≡ 0 = count_none office xs (λ i h d. apart 0 (suc i) (omega arith) (omega arith) (sym e ∙ d)) in
        rw (eq-eqb office x e) (omega arith)
    by_first (no o) rest = rw (ne_eqb office x o) (omega arith)

apart_by : (xs : List ℕ) → ((office : ℕ) → count office xs ≤ 1) → Apart xs
apart_by [] most i j h k e = omega arith
apart_by (x ∷ xs) most i zero h k e = omega arith
apart_by (x ∷ xs) most zero (suc j) h k e =
    let here : bit (eqb x (get_or xs j 0)) ≤ count x xs = part_le (λ visit. bit (eqb x visit)) xs j 0 (omega arith) in
    let again = rw (eq-eqb x (get_or xs j 0) e) at here in
    let first = rw (eq-eqb x x refl) at (most x) in
    omega arith
apart_by (x ∷ xs) most (suc i) (suc j) h k e = apart_by xs (λ office. let m = most office in omega arith) i j (omega arith) (omega arith) e

pub apart_kept : (xs ys : List ℕ) → SameVisits xs ys → Apart xs → Apart ys
apart_kept xs ys same apart = apart_by ys (λ office. rw (same_count office xs ys same) (once office xs apart))

-- what holds of each visit, where it is a test
pub still_fine : (depots l : ℕ) (visits lengths visits' lengths' : List ℕ) (ls : List (List ℕ)) → l - depots ≤ 63
    → TableFine depots l visits lengths → Edited visits lengths visits' lengths' ls → TableFine depots l visits' lengths'
still_fine depots l visits lengths visits' lengths' ls few fine e =
    let long : length visits' ≡ length visits = same_length visits visits' e.same in
    record {
      laid = e.laid;
      short = λ r. omega (arith, start_within lengths' r, e.laid.add_up, fine.at_most);
      office = λ k h. leb-true _ _ (same_each (λ v. leb depots v) visits visits' e.same (λ i there. le-leb _ _ (fine.office i there)) k h);
      below = λ k h. ltb-true _ _ (same_each (λ v. ltb v l) visits visits' e.same (λ i there. lt-ltb _ _ (fine.below i there)) k h);
      apart = apart_kept visits visits' e.same fine.apart;
      at_most = rw long fine.at_most;
    }
