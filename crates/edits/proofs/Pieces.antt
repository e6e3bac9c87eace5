-- What each edit makes of a list that is given in pieces: it is enough that the places are where the pieces meet. Assumes nothing.
use mathlib.Core.Path.{◌≡◌, ap, ◌∙◌}
use mathlib.Core.List.{List, ◌++◌, reverse, append_assoc}
use Prim.Native.Nat.{ℕ, ◌+◌}
use native.Mathlib.Omega.{arith}
use lib.ListN.{length, take, drop, length-append}
use lib.Seq.{slice, take_at, drop_at}
use Rattle.edits.specs.Edits.{reversed, exchanged, outer_exchanged}

-- three pieces: B turned round
module _ (A B C : List ℕ) (i e : ℕ) (at_i : length A ≡ i) (at-e : length A + length B ≡ e) where
  both : length (A ++ B) ≡ e
  both = length-append A B ∙ at-e

  front : take i (A ++ B ++ C) ≡ A
  front = rw append_assoc (take_at A (B ++ C) i at_i)

  middle : slice i e (A ++ B ++ C) ≡ B
  middle = ap (drop i) (take_at (A ++ B) C e both) ∙ drop_at A B i at_i

  back : drop e (A ++ B ++ C) ≡ C
  back = drop_at (A ++ B) C e both

  pub reversed_at : reversed i e (A ++ B ++ C) ≡ A ++ reverse B ++ C
  unfolding reversed
  reversed_at = λ k. front k ++ reverse (middle k) ++ back k

-- four pieces: B and C exchanged
module _ (A B C D : List ℕ) (i j e : ℕ) (at_i : length A ≡ i) (at_j : length A + length B ≡ j) (at-e : length A + length B + length C ≡ e) where
  pub exchanged_at : exchanged i j e (A ++ B ++ C ++ D) ≡ A ++ C ++ B ++ D
  unfolding exchanged
  exchanged_at =
      let all : length A + length (B ++ C) ≡ e = omega (arith, length-append B C) in
      let two : length (A ++ B) ≡ j = length-append A B ∙ at_j in
      let three : length (A ++ B) + length C ≡ e = omega arith in
      let one : A ++ B ++ C ++ D ≡ A ++ B ++ (C ++ D) = append_assoc (A ++ B) C D in
      let B-is : slice i j (A ++ B ++ C ++ D) ≡ B = ap (slice i j) one ∙ middle A B (C ++ D) i j at_i at_j in
      let A-is : take i (A ++ B ++ C ++ D) ≡ A = ap (take i) one ∙ front A B (C ++ D) i j at_i at_j in
      λ k. A-is k ++ middle (A ++ B) C D j e two three k ++ B-is k ++ back (A ++ B) C D j e two three k

-- five pieces: B and D exchanged round C
module _ (A B C D E : List ℕ) (i j k e : ℕ) (at_i : length A ≡ i) (at_j : length A + length B ≡ j) (at-k : length A + length B + length C ≡ k)
    (at-e : length A + length B + length C + length D ≡ e) where
  pub outer_exchanged_at : outer_exchanged i j k e (A ++ B ++ C ++ D ++ E) ≡ A ++ D ++ C ++ B ++ E
  unfolding outer_exchanged
  outer_exchanged_at =
      let two : length (A ++ B) ≡ j = length-append A B ∙ at_j in
      let three : length (A ++ B) + length C ≡ k = omega arith in
      let three' : length (A ++ B ++ C) ≡ k = length-append (A ++ B) C ∙ three in
      let four : length (A ++ B ++ C) + length D ≡ e = omega arith in
      let right : A ++ B ++ C ++ D ++ E ≡ A ++ B ++ C ++ (D ++ E) = append_assoc (A ++ B ++ C) D E in
      let further : A ++ B ++ C ++ D ++ E ≡ A ++ B ++ (C ++ (D ++ E)) = right ∙ append_assoc (A ++ B) C (D ++ E) in
      let A-is : take i (A ++ B ++ C ++ D ++ E) ≡ A = ap (take i) further ∙ front A B (C ++ (D ++ E)) i j at_i at_j in
      let B-is : slice i j (A ++ B ++ C ++ D ++ E) ≡ B = ap (slice i j) further ∙ middle A B (C ++ (D ++ E)) i j at_i at_j in
      let C-is : slice j k (A ++ B ++ C ++ D ++ E) ≡ C = ap (slice j k) right ∙ middle (A ++ B) C (D ++ E) j k two three in
      λ t. A-is t ++ middle (A ++ B ++ C) D E k e three' four t ++ C-is t ++ B-is t ++ back (A ++ B ++ C) D E k e three' four t
