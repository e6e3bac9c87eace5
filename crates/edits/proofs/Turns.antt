-- The exchanges as reversals: pieces that are turned round each, and then all together, stand in the opposite order, each as it was.
-- Assumes nothing.
use mathlib.Core.Path.{◌≡◌, sym, ap, ◌∙◌}
use mathlib.Core.List.{List, ◌++◌, reverse, append_assoc, append-nil, reverse-append, reverse-reverse}
use Prim.Native.Nat.{ℕ, ◌+◌, ◌-◌, ◌<◌, ◌≤◌}
use native.Mathlib.Omega.{arith}
use borrow.Author.Tests.{lt-ltb, le-ltb}
use lib.ListN.{length, take, drop, length-append, length-reverse}
use lib.Seq.{slice, slice_empty, length-take-le, length-slice}
use Rattle.edits.specs.Edits.{reversed, exchanged, put_before, outer_exchanged}
use Rattle.edits.proofs.Cuts.{cut, cut4, cut5}
use Rattle.edits.proofs.Pieces.{reversed_at, exchanged_at}

-- the piece B that comes next, behind the pieces A
next : (A B C : List ℕ) (i e : ℕ) → length A ≡ i → length A + length B ≡ e → reversed i e (A ++ (B ++ C)) ≡ A ++ reverse B ++ C
next A B C i e at_i at-e = rw (← append_assoc A B C) (reversed_at A B C i e at_i at-e)

-- how far the pieces reach once B is turned round
reach : (A B : List ℕ) (e : ℕ) → length A + length B ≡ e → length (A ++ reverse B) ≡ e
reach A B e at-e = rw (length-append, length-reverse) at-e

pub four_reversals : (A B C D E : List ℕ) (i j k e : ℕ) → length A ≡ i → length A + length B ≡ j → j + length C ≡ k → k + length D ≡ e
    → reversed i e (reversed k e (reversed j k (reversed i j (A ++ (B ++ (C ++ (D ++ E))))))) ≡ A ++ D ++ C ++ B ++ E
four_reversals A B C D E i j k e at_i at_j at-k at-e =
    let to_j = reach A B j at_j in
    let at-k' : length (A ++ reverse B) + length C ≡ k = omega arith in
    let to-k = reach (A ++ reverse B) C k at-k' in
    let at-e' : length (A ++ reverse B ++ reverse C) + length D ≡ e = omega arith in
    let all : length A + length (reverse B ++ reverse C ++ reverse D) ≡ e = simp (length-append, length-reverse) (omega arith) in
    let three = ap (λ (l : List ℕ). reversed k e (reversed j k l)) (next A B (C ++ (D ++ E)) i j at_i at_j)
    ∙ ap (reversed k e) (next (A ++ reverse B) C (D ++ E) j k to_j at-k')
    ∙ next (A ++ reverse B ++ reverse C) D E k e to-k at-e' in
    let group : A ++ reverse B ++ reverse C ++ reverse D ++ E ≡ A ++ (reverse B ++ reverse C ++ reverse D) ++ E = simp append_assoc in
    let back : reverse (reverse B ++ reverse C ++ reverse D) ≡ D ++ (C ++ B) = simp (reverse-append, reverse-reverse) in
    ap (reversed i e) (three ∙ group)
    ∙ reversed_at A (reverse B ++ reverse C ++ reverse D) E i e at_i all
    ∙ ap (λ (l : List ℕ). A ++ l ++ E) back
    ∙ simp append_assoc

-- the outer stretches exchanged, by four reversals
pub outer_by_reversals : (from a b to : ℕ) (xs : List ℕ) → from ≤ a → a ≤ b → b ≤ to → to ≤ length xs
    → reversed from to (reversed b to (reversed a b (reversed from a xs))) ≡ outer_exchanged from a b to xs
unfolding outer_exchanged
outer_by_reversals from a b to xs h₁ h₂ h₃ k =
    let pieces : xs ≡ take from xs ++ (slice from a xs ++ (slice a b xs ++ (slice b to xs ++ drop to xs))) =
    sym (cut5 xs from a b to h₁ h₂ h₃) ∙ simp append_assoc in
    let at_from : length (take from xs) ≡ from = length-take-le from xs (omega arith) in
    let of-B : length (slice from a xs) ≡ a - from = length-slice from a xs (omega arith) in
    let of-C : length (slice a b xs) ≡ b - a = length-slice a b xs (omega arith) in
    let of-D : length (slice b to xs) ≡ to - b = length-slice b to xs k in
    ap (λ (l : List ℕ). reversed from to (reversed b to (reversed a b (reversed from a l)))) pieces
    ∙ four_reversals (take from xs) (slice from a xs) (slice a b xs) (slice b to xs) (drop to xs) from a b to at_from (omega arith) (omega arith) (omega arith)

-- neighbouring stretches are outer stretches with nothing between them
pub outer_none : (from middle to : ℕ) (xs : List ℕ) → outer_exchanged from middle middle to xs ≡ exchanged from middle to xs
unfolding outer_exchanged exchanged
outer_none from middle to xs = rw (slice_empty middle xs, append-nil)

-- Or-opt's move to an earlier place, and to a later one, exchanges the piece with the visits between
pub put_earlier : (from size to : ℕ) (xs : List ℕ) → to < from → put_before from size to xs ≡ exchanged to from (from + size) xs
unfolding put_before exchanged
put_earlier from size to xs h = rw (lt-ltb to from h, put_before)

pub put_later : (from size to : ℕ) (xs : List ℕ) → from ≤ to → put_before from size to xs ≡ exchanged from (from + size) to xs
unfolding put_before exchanged
put_later from size to xs h = rw (le-ltb to from h, put_before)

-- a reversal made twice leaves the list as it was
pub reversed_twice : (from to : ℕ) (xs : List ℕ) → from ≤ to → to ≤ length xs → reversed from to (reversed from to xs) ≡ xs
unfolding reversed
reversed_twice from to xs h k =
    let at_from : length (take from xs) ≡ from = length-take-le from xs (omega arith) in
    let of-B : length (slice from to xs) ≡ to - from = length-slice from to xs k in
    let of-B' : length (reverse (slice from to xs)) ≡ length (slice from to xs) = length-reverse (slice from to xs) in
    reversed_at (take from xs) (reverse (slice from to xs)) (drop to xs) from to at_from (omega arith) ∙ rw reverse-reverse (cut xs from to h)

-- stretches exchanged and exchanged back leave the list as it was
pub exchanged_back : (from middle to : ℕ) (xs : List ℕ) → from ≤ middle → middle ≤ to → to ≤ length xs
    → exchanged from (from + (to - middle)) to (exchanged from middle to xs) ≡ xs
unfolding exchanged
exchanged_back from middle to xs h k l =
    let at_from : length (take from xs) ≡ from = length-take-le from xs (omega arith) in
    let of-B : length (slice from middle xs) ≡ middle - from = length-slice from middle xs (omega arith) in
    let of-C : length (slice middle to xs) ≡ to - middle = length-slice middle to xs l in
    exchanged_at (take from xs) (slice middle to xs) (slice from middle xs) (drop to xs) from (from + (to - middle)) to at_from (omega arith) (omega arith)
    ∙ cut4 xs from middle to h k
