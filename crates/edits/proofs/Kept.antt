-- What every edit keeps: every total over the visits, whatever is added up. So how often each office stands in the list, its load, and its length.
-- An edit only arranges the pieces of a list anew, and a total of pieces is the sum of their totals. And the totals of a list with a visit put in, or
-- taken out. Assumes nothing.
use mathlib.Core.Path.{◌≡◌, refl, sym, ap, ◌∙◌}
use mathlib.Core.Logic.{◌⊎◌, inl, inr}
use mathlib.Core.Bool.{Bool, true, false, not}
use mathlib.Core.List.{List, ◌∷◌, ◌++◌}
use Prim.Native.Nat.{ℕ, suc, ◌+◌, ◌<◌, ◌≤◌, ◌-◌}
use native.Mathlib.Omega.{arith}
use lib.Dec.{eqb}
use lib.ListN.{length, get_or, take, drop, take-append-drop}
use lib.Seq.{drop-cons}
use Rattle.edits.specs.Total.{total, bit, count, SameVisits, sums, total_append, total_one, total_none, part_le}
use Rattle.edits.specs.Edits.{reversed, exchanged, put_before, outer_exchanged, inserted, without}
use Rattle.edits.proofs.Cuts.{cut, cut4, cut5}
use Rattle.edits.proofs.Turns.{put_earlier, put_later}

pub same_length : (xs ys : List ℕ) → SameVisits xs ys → length ys ≡ length xs
same_length xs ys same = sym (total_one ys) ∙ same (λ x. 1) ∙ total_one xs

pub same_reversed : (from to : ℕ) (xs : List ℕ) → from ≤ to → SameVisits xs (reversed from to xs)
unfolding reversed
same_reversed from to xs h f =
    let whole = simp sums at (ap (total f) (cut xs from to h)) in
    simp sums whole

pub same_exchanged : (from middle to : ℕ) (xs : List ℕ) → from ≤ middle → middle ≤ to → SameVisits xs (exchanged from middle to xs)
unfolding exchanged
same_exchanged from middle to xs h k f =
    let whole = simp sums at (ap (total f) (cut4 xs from middle to h k)) in
    simp sums (omega arith)

pub same_outer_exchanged : (from a b to : ℕ) (xs : List ℕ) → from ≤ a → a ≤ b → b ≤ to → SameVisits xs (outer_exchanged from a b to xs)
unfolding outer_exchanged
same_outer_exchanged from a b to xs h₁ h₂ h₃ f =
    let whole = simp sums at (ap (total f) (cut5 xs from a b to h₁ h₂ h₃)) in
    simp sums (omega arith)

pub same_put_before : (from size to : ℕ) (xs : List ℕ) → ((to < from) ⊎ (from + size ≤ to)) → SameVisits xs (put_before from size to xs)
same_put_before from size to xs (inl earlier) f =
    rw (put_earlier from size to xs earlier) (same_exchanged to from (from + size) xs (omega arith) (omega arith) f)
same_put_before from size to xs (inr later) f =
    rw (put_later from size to xs (omega arith)) (same_exchanged from (from + size) to xs (omega arith) later f)

-- how often an office stands in the list is such a total
pub same_count : (office : ℕ) (xs ys : List ℕ) → SameVisits xs ys → count office ys ≡ count office xs
same_count office xs ys same = same (λ visit. bit (eqb office visit))

-- what held at every place still does, as that a visit is below a bound: where it fails counts 1, and that total is 0
pub same_each : (ok : ℕ → Bool) (xs ys : List ℕ) → SameVisits xs ys
    → ((k : ℕ) → k < length xs → ok (get_or xs k 0) ≡ true) → (k : ℕ) → k < length ys → ok (get_or ys k 0) ≡ true
same_each ok xs ys same held k h =
    let wrong : ℕ → ℕ = λ visit. bit (not (ok visit)) in
    let none : total wrong xs ≡ 0 = total_none wrong xs 0 (λ i below. ap (λ (b : Bool). bit (not b)) (held i below)) in
    let here : wrong (get_or ys k 0) ≤ total wrong ys = part_le wrong ys k 0 h in
    let zero-here : wrong (get_or ys k 0) ≡ 0 = omega (arith, same wrong) in
    right (ok (get_or ys k 0)) zero-here
  where
    right : (b : Bool) → bit (not b) ≡ 0 → b ≡ true
    right true e = refl
    right false e = absurd (omega arith)

-- one edit after another
pub same_on : (xs ys zs : List ℕ) → SameVisits xs ys → SameVisits ys zs → SameVisits xs zs
same_on xs ys zs first second f = second f ∙ first f

-- each edit keeps the length
pub length-reversed : (from to : ℕ) (xs : List ℕ) → from ≤ to → length (reversed from to xs) ≡ length xs
length-reversed from to xs h = same_length xs (reversed from to xs) (same_reversed from to xs h)

-- ---- a visit put in, or taken out

pub total-inserted : (f : ℕ → ℕ) (xs : List ℕ) (visit place : ℕ) → total f (inserted xs visit place) ≡ total f xs + f visit
total-inserted f xs visit place =
    let whole : total f (take place xs ++ drop place xs) ≡ total f xs = ap (total f) (take-append-drop place xs) in
    let parts = total_append f (take place xs) (drop place xs) in
    rw (total_append f (take place xs) (visit ∷ drop place xs)) (omega arith)

pub total-without : (f : ℕ → ℕ) (xs : List ℕ) (position : ℕ) → position < length xs
    → total f (without xs position) + f (get_or xs position 0) ≡ total f xs
total-without f xs position h =
    let whole : total f (take position xs ++ drop position xs) ≡ total f xs = ap (total f) (take-append-drop position xs) in
    let parts = total_append f (take position xs) (drop position xs) in
    let behind : total f (drop position xs) ≡ f (get_or xs position 0) + total f (drop (suc position) xs) = ap (total f) (drop-cons xs position 0 h) in
    rw (total_append f (take position xs) (drop (suc position) xs)) (omega arith)

pub length_inserted : (xs : List ℕ) (visit place : ℕ) → length (inserted xs visit place) ≡ suc (length xs)
length_inserted xs visit place = omega (arith, total-inserted (λ w. 1) xs visit place, total_one xs, total_one (inserted xs visit place))

pub length_without : (xs : List ℕ) (position : ℕ) → position < length xs → length (without xs position) ≡ length xs - 1
length_without xs position h = omega (arith, total-without (λ w. 1) xs position h, total_one xs, total_one (without xs position))
