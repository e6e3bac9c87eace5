-- The Rust counts where a piece goes in the list without the piece (`at`), and descent in the original list (`to`): at is to before the piece, and to
-- less its size behind it. So both make the same neighbours, in the same order. Assumes nothing.
use mathlib.Core.Path.{◌≡◌, refl, sym, ap, ap₂, ◌∙◌}
use mathlib.Core.List.{List, ◌∷◌, ◌++◌, map, append_assoc}
use Prim.Native.Nat.{ℕ, zero, suc, ◌+◌, ◌≤◌, ◌<◌, ◌-◌}
use native.Mathlib.Omega.{arith}
use borrow.Author.Tests.{lt-ltb, le-ltb}
use lib.ListN.{length, take, drop}
use lib.Seq.{slice, take-take, drop-drop, take-append-le, drop-append-le, take-append-add, drop-append-add, length-take-le}
use Rattle.edits.proofs.Cuts.{lent}
use Rattle.descent.specs.Order.{from_on}
use Rattle.descent.specs.Within.{put_before_lem}

-- `rest`, the list without the piece
abbrev without : List ℕ → ℕ → ℕ → List ℕ
without xs size from = take from xs ++ drop (from + size) xs

-- `rest[..at]`, `segment`, `rest[at..]`
abbrev pub put_at : List ℕ → ℕ → ℕ → ℕ → List ℕ
put_at xs size from at = take at (without xs size from) ++ slice from (from + size) xs ++ drop at (without xs size from)

-- a piece that goes to an earlier place, and to a later one
pub put_earlier : (xs : List ℕ) (size from at : ℕ) → from ≤ length xs → at < from
    → put_at xs size from at ≡ put_before_lem xs (record { size = size; from = from; to = at })
put_earlier xs size from at fits h =
    let long : at ≤ length (take from xs) = rw (length-take-le from xs fits) (omega arith) in
    let head = take-append-le at (take from xs) (drop (from + size) xs) long ∙ take-take at from xs (omega arith) in
    let tail = drop-append-le at (take from xs) (drop (from + size) xs) long in
    ap₂ (λ (a b : List ℕ). a ++ slice from (from + size) xs ++ b) head tail
    ∙ sym (append_assoc (take at xs ++ slice from (from + size) xs) (slice at from xs) (drop (from + size) xs))
    ∙ rw (lt-ltb at from h, put_before_lem)

pub put_later : (xs : List ℕ) (size from at : ℕ) → from ≤ length xs → from < at
    → put_at xs size from at ≡ put_before_lem xs (record { size = size; from = from; to = at + size })
put_later xs size from at fits h =
    let long : at ≡ length (take from xs) + (at - from) = rw (length-take-le from xs fits) (omega arith) in
    let behind = drop (from + size) xs in
    let head = ap (λ (k : ℕ). take k (take from xs ++ behind)) long ∙ take-append-add (take from xs) behind (at - from) in
    let tail = ap (λ (k : ℕ). drop k (take from xs ++ behind)) long ∙ drop-append-add (take from xs) behind (at - from) in
    let some : at - from ≡ at + size - (from + size) = omega arith in
    let all : from + size + (at - from) ≡ at + size = omega arith in
    let between : take (at - from) behind ≡ slice (from + size) (at + size) xs =
    ap (λ (k : ℕ). take k behind) some ∙ lent (from + size) (at + size) xs (omega arith) in
    let last : drop (at - from) behind ≡ drop (at + size) xs = drop-drop (at - from) (from + size) xs ∙ ap (λ (k : ℕ). drop k xs) all in
    ap₂ (λ (a b : List ℕ). a ++ slice from (from + size) xs ++ b) (head ∙ ap (λ (l : List ℕ). take from xs ++ l) between) (tail ∙ last)
    ∙ rw (le-ltb (at + size) from (omega arith), put_before_lem)

shifted : (size a n : ℕ) → map (λ at. at + size) (from_on a n) ≡ from_on (a + size) n
shifted size a zero = refl
shifted size a (suc n) =
    let next : suc a + size ≡ suc (a + size) = omega arith in
    ap (λ (l : List ℕ). (a + size) ∷ l) (shifted size (suc a) n ∙ ap (λ (k : ℕ). from_on k n) next)
