-- What stays true of the lists that a run can reach: every visit is below a bound if it was, and no list is longer than all were together.
-- Assumes nothing.
use mathlib.Core.Path.{◌≡◌, refl, ap, ◌∙◌}
use mathlib.Core.Bool.{Bool, true, false}
use mathlib.Core.List.{List, []}
use Prim.Native.Nat.{ℕ, ◌≤◌, ◌<◌}
use native.Mathlib.Omega.{arith}
use borrow.Author.Tests.{lt-leb, leb-false}
use lib.Dec.{leb}
use lib.ListN.{length, get_or}
use Rattle.edits.specs.Total.{total, bit, part_le, total_none, total_one}
use Rattle.descent.specs.Permitted.{Checks}
use Rattle.descent.proofs.Kept.{Kept}

-- 1 where x is not below n
abbrev pub over : ℕ → ℕ → ℕ
over n x = bit (leb n x)

-- no visit of a list, or of several, is n or more
abbrev pub Below : ℕ → List ℕ → Type 0
Below n xs = total (over n) xs ≡ 0

abbrev pub AllBelow : ℕ → List (List ℕ) → Type 0
AllBelow n ls = total (total (over n)) ls ≡ 0

pub over_none : (n x : ℕ) → over n x ≡ 0 → x < n
over_none n x e = go (leb n x) refl e
  where
    go : (b : Bool) → leb n x ≡ b → bit b ≡ 0 → x < n
    go true p e = absurd (omega arith)
    go false p e = leb-false n x p

pub below_of : (n : ℕ) (xs : List ℕ) → ((k : ℕ) → k < length xs → get_or xs k 0 < n) → Below n xs
below_of n xs h = total_none (over n) xs 0 (λ k there. ap bit (lt-leb n (get_or xs k 0) (h k there)))

pub below_at : (n : ℕ) (xs : List ℕ) (i q : ℕ) → Below n xs → i < length xs → get_or xs i q < n
below_at n xs i q h k = over_none n (get_or xs i q) (let le = part_le (over n) xs i q k in omega arith)

pub kept_below : (checks : Checks) (n : ℕ) (ls ms : List (List ℕ)) → Kept checks ls ms → AllBelow n ls → AllBelow n ms
kept_below checks n ls ms kept h = kept.sums (over n) ∙ h

pub kept_length : (checks : Checks) (ls ms : List (List ℕ)) (r : ℕ) → Kept checks ls ms → r < length ms → length (get_or ms r []) ≤ total (total (λ x. 1)) ls
kept_length checks ls ms r kept h =
    let le = part_le (total (λ x. 1)) ms r [] h in
    omega (arith, kept.sums (λ x. 1), total_one (get_or ms r []))
