-- The first n entries of a table, lent and given back; a move made in the first n lists of the tables. Assumes nothing.
use mathlib.Core.Path.{◌≡◌, sym, ap, ◌∙◌}
use mathlib.Core.List.{List, ◌∷◌, ◌++◌}
use Prim.Native.Nat.{ℕ, zero, suc, ◌+◌, ◌-◌, ◌≤◌}
use native.Mathlib.Nat.{sub-zero}
use native.Mathlib.Omega.{arith}
use borrow.Rule.Slice.PartMut.{put_mid}
use lib.ListN.{length, take, drop, replicate, take-append-drop}
use lib.Seq.{take_at, drop_at, length-take-le}
use lib.Ieee.{Float}
use Rattle.cross_moves.specs.CrossDepot.{plan_of}
use Rattle.cross_moves.specs.declared.pair.Move.{Move}
use Rattle.cross_changes.specs.Tables.{Made}
use Rattle.cross_steps.specs.Tables.{MadeIn}

-- the first n, lent
pub part : {A : Type 0} (n : ℕ) (xs : List A) → take (n - 0) (drop 0 xs) ≡ take n xs
part n xs = ap (λ k. take k xs) (sub-zero n)

pub length_part : {A : Type 0} (n : ℕ) (xs : List A) → n ≤ length xs → length (take (n - 0) (drop 0 xs)) ≡ n
length_part n xs h = ap length (part n xs) ∙ length-take-le n xs h

pub parts_even : {A B : Type 0} (n : ℕ) (xs : List A) (ys : List B) → n ≤ length ys → length xs ≡ length ys
    → length (take (n - 0) (drop 0 xs)) ≡ length (take (n - 0) (drop 0 ys))
parts_even n xs ys h e = length_part n xs (omega arith) ∙ sym (length_part n ys h)

-- and given back as `new`
pub put : {A : Type 0} (n : ℕ) (xs new : List A) → put_mid 0 (n - 0) xs new ≡ new ++ drop n xs
put n xs new = ap (λ k. new ++ drop k xs) (sub-zero n)

-- a table by its first n entries, where the others are those of another
pub cut_at : {A : Type 0} (n : ℕ) (xs others : List A) → drop n xs ≡ drop n others → xs ≡ take n xs ++ drop n others
cut_at n xs others e = sym (take-append-drop n xs) ∙ ap (λ z. take n xs ++ z) e

-- the first n given back: they are `new`, and the others are as they were
take_put : {A : Type 0} (n : ℕ) (xs new : List A) → length new ≡ n → take n (put_mid 0 (n - 0) xs new) ≡ new
take_put n xs new e = ap (take n) (put n xs new) ∙ take_at new (drop n xs) n e

drop_put : {A : Type 0} (n : ℕ) (xs new : List A) → length new ≡ n → drop n (put_mid 0 (n - 0) xs new) ≡ drop n xs
drop_put n xs new e = ap (drop n) (put n xs new) ∙ drop_at new (drop n xs) n e

-- a move made in the first n
pub made_in : (n : ℕ) (m : Move) (cost1 cost2 : Float) (visits lengths ids : List ℕ) (costs : List Float) (visits' L I : List ℕ) (C : List Float) (kept : ℕ)
    → n ≤ length lengths → length ids ≡ length lengths → length costs ≡ length lengths
    → Made (plan_of visits (take (n - 0) (drop 0 lengths)) (take (n - 0) (drop 0 ids)) (take (n - 0) (drop 0 costs))) m cost1 cost2 visits visits' L I C kept
    → length L ≡ length (take (n - 0) (drop 0 lengths)) → length I ≡ length (take (n - 0) (drop 0 ids)) → length C ≡ length (take (n - 0) (drop 0 costs))
    → MadeIn n m cost1 cost2 visits lengths ids costs visits' (put_mid 0 (n - 0) lengths L) (put_mid 0 (n - 0) ids I) (put_mid 0 (n - 0) costs C) kept
made_in n m cost1 cost2 visits lengths ids costs visits' L I C kept few even-ids even-costs made long_L long-I long-C =
    let many-L : length L ≡ n = long_L ∙ length_part n lengths few in
    let many-I : length I ≡ n = long-I ∙ length_part n ids (omega arith) in
    let many-C : length C ≡ n = long-C ∙ length_part n costs (omega arith) in
    record {
      made = rw (take_put n lengths L many-L, take_put n ids I many-I, take_put n costs C many-C)
          (rw (part n lengths, part n ids, part n costs) at made);
      other_lengths = drop_put n lengths L many-L;
      other_ids = drop_put n ids I many-I;
      other_costs = drop_put n costs C many-C;
    }

-- nothing, and behind it nothing
pub nones : {A : Type 0} (x : A) (a b : ℕ) → replicate a x ++ replicate b x ≡ replicate (a + b) x
nones x zero b = let e : 0 + b ≡ b = omega arith in rw e
nones x (suc a) b = let e : suc a + b ≡ suc (a + b) = omega arith in rw e (ap (λ z. x ∷ z) (nones x a b))
