-- A list's pieces by the places where it is cut. Assumes nothing.
use mathlib.Core.Path.{◌≡◌, sym, ap, ◌∙◌}
use mathlib.Core.List.{List, ◌++◌, append_assoc}
use Prim.Native.Nat.{ℕ, ◌+◌, ◌≤◌}
use lib.ListN.{length, take, drop, length-append, take-append-drop}
use lib.Seq.{slice, take-take, take_at, drop_at}
use Rattle.edits.specs.Total.{total, total_one}

-- what keeps every sum keeps the length
pub length_kept : (xs ys : List ℕ) → ((f : ℕ → ℕ) → total f ys ≡ total f xs) → length ys ≡ length xs
length_kept xs ys keeps = sym (total_one ys) ∙ keeps (λ x. 1) ∙ total_one xs

-- cut at i and at e, a list is its three pieces
pub cut : (xs : List ℕ) (i e : ℕ) → i ≤ e → take i xs ++ slice i e xs ++ drop e xs ≡ xs
cut xs i e h = rw (← (take-take i e xs h), take-append-drop i (take e xs), take-append-drop e xs)

-- three pieces are what the list is cut into at their ends
module _ (A B C : List ℕ) (i e : ℕ) (at_i : length A ≡ i) (at-e : length A + length B ≡ e) where
  both : length (A ++ B) ≡ e
  both = length-append A B ∙ at-e

  pub cut_A : take i (A ++ B ++ C) ≡ A
  cut_A = rw append_assoc (take_at A (B ++ C) i at_i)

  pub cut_B : slice i e (A ++ B ++ C) ≡ B
  cut_B = rw (take_at (A ++ B) C e both) (drop_at A B i at_i)

  pub cut_C : drop e (A ++ B ++ C) ≡ C
  cut_C = drop_at (A ++ B) C e both

-- cut at i, j and e, a list is its four pieces
pub cut4 : (xs : List ℕ) (i j e : ℕ) → i ≤ j → j ≤ e → take i xs ++ slice i j xs ++ slice j e xs ++ drop e xs ≡ xs
cut4 xs i j e h k = rw (← (take-take i j xs h), take-append-drop i (take j xs), cut xs j e k)

module _ (A B C D : List ℕ) (i j e : ℕ) (at_i : length A ≡ i) (at_j : length A + length B ≡ j) (at-e : length A + length B + length C ≡ e) where
  two : length (A ++ B) ≡ j
  two = length-append A B ∙ at_j

  three : length (A ++ B ++ C) ≡ e
  three = length-append (A ++ B) C ∙ ap (λ (n : ℕ). n + length C) (length-append A B) ∙ at-e

  pub cut4_A : take i (A ++ B ++ C ++ D) ≡ A
  cut4_A = simp append_assoc (take_at A (B ++ (C ++ D)) i at_i)

  pub cut4_B : slice i j (A ++ B ++ C ++ D) ≡ B
  cut4_B = let t : take j (A ++ B ++ C ++ D) ≡ A ++ B = rw (append_assoc (A ++ B) C D) (take_at (A ++ B) (C ++ D) j two) in rw t (drop_at A B i at_i)

  pub cut4_C : slice j e (A ++ B ++ C ++ D) ≡ C
  cut4_C = rw (take_at (A ++ B ++ C) D e three) (drop_at (A ++ B) C j two)

  pub cut4_D : drop e (A ++ B ++ C ++ D) ≡ D
  cut4_D = drop_at (A ++ B ++ C) D e three
