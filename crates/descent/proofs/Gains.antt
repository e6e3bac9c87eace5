-- What each move changes in the length of a way from the depot and back. Assumes nothing.
use mathlib.Core.Path.{◌≡◌, refl}
use mathlib.Core.Bool.{Bool, true, false, not}
use mathlib.Core.List.{List, [], ◌∷◌, ◌++◌, reverse, append_assoc, append-nil}
use Prim.Native.Nat.{ℕ, ◌+◌, ◌≤◌}
use native.Mathlib.Omega.{arith}
use lib.ListN.{length, length-reverse}
use lib.Seq.{append_snoc}
use Rattle.edits.specs.Total.{total}
use Rattle.descent.specs.Sum.{walk}
use Rattle.descent.specs.Permitted.{turn}
use Rattle.descent.proofs.Walk.{circuit, first, end, inside, back, enter, flat, joins, walk_append, walk_pieces, end-reverse, first-reverse}
use Rattle.descent.proofs.Walk.{inside-reverse}

-- ---- definitions

-- the legs as they are, or the other way
abbrev pub way : Bool → (ℕ → ℕ → ℕ) → ℕ → ℕ → ℕ
way false d = d
way true d = back d

-- the pieces B and C in one of eight arrangements: exchanged or not, B turned or not, C turned or not
abbrev pub laid : Bool → Bool → Bool → List ℕ → List ℕ → List (List ℕ)
laid false b c B C = turn b B ∷ turn c C ∷ []
laid true b c B C = turn c C ∷ turn b B ∷ []

-- ---- laws

-- the part of a tour A, .., D that is the same whatever stands between
abbrev pub frame : (ℕ → ℕ → ℕ) → ℕ → List ℕ → List ℕ → ℕ
frame d z A D = walk d z A + inside d (D ++ z ∷ [])

-- THE LAW OF TOURS: between A and D, what counts is the legs that join the pieces, and the legs inside them
pub round_pieces : (d : ℕ → ℕ → ℕ) (z : ℕ) (A : List ℕ) (Ps : List (List ℕ)) (D : List ℕ)
    → circuit d z (A ++ flat Ps ++ D) ≡ frame d z A D + joins d (end z A) Ps (first z D) + total (inside d) Ps
round_pieces d z A Ps [] = simp (append_assoc, append-nil, walk_append d z A, walk_pieces) (omega arith)
round_pieces d z A Ps (x ∷ D) = simp (append_assoc, walk_append d z A, walk_pieces) (omega arith)

-- the first visit of a piece in the direction in which it is driven: of a turned piece its last
abbrev pub tip : Bool → ℕ → List ℕ → ℕ
tip false z P = first z P
tip true z P = end z P

pub first-turn : (b : Bool) (z : ℕ) (P : List ℕ) → first z (turn b P) ≡ tip b z P
first-turn false z P = refl
first-turn true z P = first-reverse z P

pub end-turn : (b : Bool) (z : ℕ) (P : List ℕ) → end z (turn b P) ≡ tip (not b) z P
end-turn false z P = refl
end-turn true z P = end-reverse z P

pub inside-turn : (b : Bool) (d : ℕ → ℕ → ℕ) (P : List ℕ) → inside d (turn b P) ≡ inside (way b d) P
inside-turn false d P = refl
inside-turn true d P = inside-reverse d P

pub length-turn : (b : Bool) (P : List ℕ) → length (turn b P) ≡ length P
length-turn false P = refl
length-turn true P = length-reverse P

-- of a piece that has a visit, it does not matter what stands for none
pub end_any : (y z : ℕ) (P : List ℕ) → 1 ≤ length P → end y P ≡ end z P
end_any y z [] h = absurd (omega arith)
end_any y z (x ∷ P) h = refl

pub enter-first : (d : ℕ → ℕ → ℕ) (a z : ℕ) (P : List ℕ) → 1 ≤ length P → enter d a P ≡ d a (first z P)
enter-first d a z [] h = absurd (omega arith)
enter-first d a z (x ∷ P) h = refl

module _ (d : ℕ → ℕ → ℕ) (z : ℕ) where
  -- the legs that join one piece, and two, to what stands before and after
  pub joins_one : (a : ℕ) (P : List ℕ) (n : ℕ) → 1 ≤ length P → joins d a (P ∷ []) n ≡ d a (first z P) + d (end z P) n
  joins_one a P n h = rw (enter-first d a z P, end_any a z P)

  pub joins_two : (a : ℕ) (P Q : List ℕ) (n : ℕ) → 1 ≤ length P → 1 ≤ length Q
      → joins d a (P ∷ Q ∷ []) n ≡ d a (first z P) + (d (end z P) (first z Q) + d (end z Q) n)
  joins_two a P Q n h k = rw (enter-first d a z P, end_any a z P, enter-first d (end z P) z Q, end_any (end z P) z Q)

  -- the same for the eight arrangements of two pieces
  pub joins_kept : (a : ℕ) (b c : Bool) (B C : List ℕ) (n : ℕ) → 1 ≤ length B → 1 ≤ length C
      → joins d a (laid false b c B C) n ≡ d a (tip b z B) + (d (tip (not b) z B) (tip c z C) + d (tip (not c) z C) n)
  joins_kept a b c B C n h k =
      rw (joins_two a (turn b B) (turn c C) n (rw length-turn h) (rw length-turn k), first-turn b, first-turn c, end-turn b, end-turn c)

  pub joins_swapped : (a : ℕ) (b c : Bool) (B C : List ℕ) (n : ℕ) → 1 ≤ length B → 1 ≤ length C
      → joins d a (laid true b c B C) n ≡ d a (tip c z C) + (d (tip (not c) z C) (tip b z B) + d (tip (not b) z B) n)
  joins_swapped a b c B C n h k =
      rw (joins_two a (turn c C) (turn b B) n (rw length-turn k) (rw length-turn h), first-turn b, first-turn c, end-turn b, end-turn c)

  -- the law of tours for no piece, one and two
  pub round_none : (A D : List ℕ) → circuit d z (A ++ D) ≡ frame d z A D + d (end z A) (first z D)
  round_none A D = let law = rw append-nil at (round_pieces d z A [] D) in omega arith

  pub round_one : (A P D : List ℕ) → circuit d z (A ++ P ++ D) ≡ frame d z A D + joins d (end z A) (P ∷ []) (first z D) + inside d P
  round_one A P D = let law = rw append-nil at (round_pieces d z A (P ∷ []) D) in omega arith

  pub round_two : (A P Q D : List ℕ)
      → circuit d z (A ++ P ++ Q ++ D) ≡ frame d z A D + joins d (end z A) (P ∷ Q ∷ []) (first z D) + inside d P + inside d Q
  round_two A P Q D = let law = rw (append-nil Q, ← (append_assoc A P Q)) at (round_pieces d z A (P ∷ Q ∷ []) D) in omega arith

  -- ---- gains. Each says: the new tour and what is taken out of the old are the old tour and what is put in.

  -- 2-opt: B is turned round
  pub turned_gain : (A B C : List ℕ) → 1 ≤ length B
      → circuit d z (A ++ reverse B ++ C) + (d (end z A) (first z B) + d (end z B) (first z C) + inside d B)
      ≡ circuit d z (A ++ B ++ C) + (d (end z A) (end z B) + d (first z B) (first z C) + inside (back d) B)
  turned_gain A B C h =
      let k : 1 ≤ length (reverse B) = rw length-reverse h in
      rw (round_one A (reverse B) C, round_one A B C, joins_one (end z A) (reverse B), joins_one (end z A) B, first-reverse, end-reverse, inside-reverse)
      (omega arith)

  -- 3-opt: B and C in any arrangement
  pub laid_gain : (s b c : Bool) (A B C D : List ℕ)
      → circuit d z (A ++ flat (laid s b c B C) ++ D) + (joins d (end z A) (B ∷ C ∷ []) (first z D) + inside d B + inside d C)
      ≡ circuit d z (A ++ B ++ C ++ D) + (joins d (end z A) (laid s b c B C) (first z D) + inside (way b d) B + inside (way c d) C)
  laid_gain false b c A B C D =
      rw (round_two A B C D) (omega (arith, round_pieces d z A (laid false b c B C) D, inside-turn b d B, inside-turn c d C))
  laid_gain true b c A B C D =
      rw (round_two A B C D) (omega (arith, round_pieces d z A (laid true b c B C) D, inside-turn b d B, inside-turn c d C))

  -- Or-opt, and 3-opt with no piece turned: B and C exchanged
  pub swapped_gain : (A B C D : List ℕ) → 1 ≤ length B → 1 ≤ length C
      → circuit d z (A ++ C ++ B ++ D) + (d (end z A) (first z B) + d (end z B) (first z C) + d (end z C) (first z D))
      ≡ circuit d z (A ++ B ++ C ++ D) + (d (end z A) (first z C) + d (end z C) (first z B) + d (end z B) (first z D))
  swapped_gain A B C D h k =
      rw (round_two A B C D, round_two A C B D, joins_two (end z A) B C, joins_two (end z A) C B) (omega arith)

  -- a visit put in, or, read from right to left, taken out
  pub put_gain : (v : ℕ) (A B : List ℕ)
      → circuit d z (A ++ v ∷ B) + d (end z A) (first z B) ≡ circuit d z (A ++ B) + (d (end z A) v + d v (first z B))
  put_gain v A B = rw (← (append_snoc A v B), round_one A (v ∷ []) B, round_none A B) (omega arith)

  -- tails exchanged
  pub tails_gain : (A B C D : List ℕ)
      → circuit d z (A ++ D) + circuit d z (C ++ B) + (d (end z A) (first z B) + d (end z C) (first z D))
      ≡ circuit d z (A ++ B) + circuit d z (C ++ D) + (d (end z A) (first z D) + d (end z C) (first z B))
  tails_gain A B C D = rw (round_none A D, round_none C B, round_none A B, round_none C D) (omega arith)
