-- A list laid out keeps its visits, is what four appends leave in a buffer, and is read off the list position by position. Assumes nothing.
use mathlib.Core.Path.{◌≡◌, refl, sym, ap, ◌∙◌}
use mathlib.Core.Bool.{Bool, true, false}
use mathlib.Core.List.{List, ◌++◌, reverse, append_assoc, append-nil}
use Prim.Native.Nat.{ℕ, ◌+◌, ◌-◌, ◌≤◌, ◌<◌}
use native.Mathlib.Omega.{arith}
use native.Mathlib.Numerals.{add-one}
use borrow.Author.Tests.{lt-ltb, ltb-true}
use lib.Dec.{ltb}
use lib.ListN.{length, take, drop, get_or, length-append, length-reverse, get_or-append}
use lib.Seq.{slice, slice_empty, length-slice, length-take-le, take-take, take-append-le, drop-append-le, get_or-take, get_or-drop, get_or-append-add}
use Rattle.edits.specs.Total.{total, sums, SameVisits}
use Rattle.edits.specs.Edits.{reversed, Appended}
use Rattle.edits.proofs.Cuts.{cut4, to_end}
use Rattle.edits.proofs.Kept.{same_length, same_each}
use Rattle.edits.proofs.Chain.{appended_on, appended_whole, get_or-reverse}
use Rattle.labels.specs.Columns.{Visits}
use Rattle.descent.specs.Permitted.{Arrangement, turn, in_order, arranged}
use Rattle.descent.specs.Within.{reconnect}
use Rattle.descent.proofs.Kept.{total-arranged}
use Rattle.layouts.specs.Layout.{arrangement, layout, laid, CutIn}
use Rattle.layouts.specs.declared.Layout.{Layout}

-- ---- what a layout keeps

pub laid_keeps : (n : ℕ) (list : List ℕ) (p : Layout) → CutIn n p → SameVisits list (laid list p)
unfolding laid
laid_keeps n list p w f =
    let whole = simp sums at (ap (total f) (cut4 list p.b p.c p.d w.b_c w.c_d)) in
    simp (sums, total-arranged) (omega arith)

pub laid-length : (n : ℕ) (list : List ℕ) (p : Layout) → CutIn n p → length (laid list p) ≡ length list
laid-length n list p w = same_length list (laid list p) (laid_keeps n list p w)

pub laid_visits : (l n : ℕ) (list : List ℕ) (p : Layout) → CutIn n p → Visits l list → Visits l (laid list p)
laid_visits l n list p w v = record {
  few = rw (laid-length n list p w) v.few;
  below = λ k h. ltb-true (get_or (laid list p) k 0) l
      (same_each (λ visit. ltb visit l) list (laid list p) (laid_keeps n list p w) (λ i k. lt-ltb (get_or list i 0) l (v.below i k)) k h);
}

-- a position of the list is one of the list laid out
module _ (list : List ℕ) {p : Layout} {k : ℕ} (w : CutIn (length list) p) where
  pub laid_long : k < length list → k < length (laid list p)
  laid_long h = rw (laid-length (length list) list p w) h

  pub laid_short : length list ≤ k → length (laid list p) ≤ k
  laid_short h = rw (laid-length (length list) list p w) h

pub laid-below : {l k : ℕ} (list : List ℕ) {p : Layout} → Visits l list → CutIn (length list) p → k < length list → get_or (laid list p) k 0 < l
laid-below {l} {k} list {p} v w h = (laid_visits l (length list) list p w v).below k (laid_long list w h)

-- ---- a list laid out in a buffer

-- four appends, from nothing on
module _ {A B C D b₀ b₁ b₂ b₃ b₄ : List ℕ} {e₁ e₂ e₃ e₄ : ℕ} (one : Appended 0 A b₀ e₁ b₁) (two : Appended e₁ B b₁ e₂ b₂) (three : Appended e₂ C b₂ e₃ b₃)
    (four : Appended e₃ D b₃ e₄ b₄) where
  four_appended : take e₄ b₄ ≡ A ++ (B ++ C) ++ D
  four_appended =
      appended_on four (appended_on three (appended_on two (appended_on one refl))) ∙ ap (λ (l : List ℕ). l ++ D) (append_assoc A B C)

-- a layout keeps the head of the list, up to B
module _ (from : ℕ) (list : List ℕ) (p : Layout) (w : CutIn (length list) p) (h : from ≤ p.b) where
  abbrev middle : List ℕ
  middle = arranged (arrangement p.way) (slice p.b p.c list) (slice p.c p.d list)

  head_long : from ≤ length (take p.b list)
  head_long =
      let long : length (take p.b list) ≡ p.b = length-take-le p.b list (omega (arith, w.b_c, w.c_d, w.d_n)) in
      omega (arith, long)

  pub head_kept : take from (laid list p) ≡ take from list
  unfolding laid
  head_kept =
      ap (take from) (append_assoc (take p.b list) middle (drop p.d list))
      ∙ take-append-le from (take p.b list) (middle ++ drop p.d list) head_long ∙ take-take from p.b list h

  head_left : slice from p.b list ++ middle ++ drop p.d list ≡ drop from (laid list p)
  unfolding laid
  head_left =
      append_assoc (slice from p.b list) middle (drop p.d list)
      ∙ sym (ap (drop from) (append_assoc (take p.b list) middle (drop p.d list))
      ∙ drop-append-le from (take p.b list) (middle ++ drop p.d list) head_long)

  module _ {b₀ b₁ b₂ b₃ b₄ : List ℕ} {e₁ e₂ e₃ e₄ : ℕ} (one : Appended 0 (slice from p.b list) b₀ e₁ b₁) (all : e₄ ≡ length list - from) where
    -- B and then C
    pub laid_straight : p.way.exchanged ≡ false → Appended e₁ (turn p.way.b_turned (slice p.b p.c list)) b₁ e₂ b₂
        → Appended e₂ (turn p.way.c_turned (slice p.c p.d list)) b₂ e₃ b₃ → Appended e₃ (slice p.d (length list) list) b₃ e₄ b₄
        → take (length list - from) b₄ ≡ drop from (laid list p)
    laid_straight order two three four = rw (← head_left, ← all, order, ← (to_end p.d list)) (four_appended one two three four)

    -- C and then B
    pub laid-exchanged : p.way.exchanged ≡ true → Appended e₁ (turn p.way.c_turned (slice p.c p.d list)) b₁ e₂ b₂
        → Appended e₂ (turn p.way.b_turned (slice p.b p.c list)) b₂ e₃ b₃ → Appended e₃ (slice p.d (length list) list) b₃ e₄ b₄
        → take (length list - from) b₄ ≡ drop from (laid list p)
    laid-exchanged order two three four = rw (← head_left, ← all, order, ← (to_end p.d list)) (four_appended one two three four)

-- the buffer's first visits, lent, are the list from its start on
pub front-laid : (list buffer : List ℕ) (p : Layout) → take (length list - 0) buffer ≡ drop 0 (laid list p)
    → take (length list - 0) (drop 0 buffer) ≡ laid list p
front-laid list buffer p e = e

-- the buffer's first visits overwrite the list
pub overwritten : (list buffer : List ℕ) (p : Layout) {end : ℕ} {after : List ℕ} → CutIn (length list) p
    → take (length list - 0) buffer ≡ laid list p → Appended 0 (take (length list - 0) (drop 0 buffer)) list end after → after ≡ laid list p
overwritten list buffer p w e new =
    let long : length (take (length list - 0) buffer) ≡ length list = ap length e ∙ laid-length (length list) list p w in
    appended_whole new long ∙ e

-- ---- a list laid out, position by position

-- behind a first part of m visits
behind : (xs ys : List ℕ) (m k : ℕ) → length xs ≡ m → m ≤ k → get_or ys (k - m) 0 ≡ get_or (xs ++ ys) k 0
behind xs ys m k long h =
    let there : length xs + (k - m) ≡ k = omega (arith, long) in
    sym (ap (λ (i : ℕ). get_or (xs ++ ys) i 0) (sym there) ∙ get_or-append-add xs ys (k - m) 0)

-- in it
before : (xs ys : List ℕ) (m k : ℕ) → length xs ≡ m → k < m → get_or xs k 0 ≡ get_or (xs ++ ys) k 0
before xs ys m k long h = sym (get_or-append xs ys 0 k (omega (arith, long)))

-- a stretch as it is
pub stretch_straight : (list : List ℕ) (from to i : ℕ) → from ≤ to → i < to - from → get_or list (from + i) 0 ≡ get_or (slice from to list) i 0
stretch_straight list from to i h k = sym (get_or-drop from (take to list) i 0 ∙ get_or-take to list (from + i) 0 (omega arith))

-- and turned round
pub stretch_turned : (list : List ℕ) (from to i : ℕ) → from ≤ to → to ≤ length list → i < to - from
    → get_or list (to - 1 - i) 0 ≡ get_or (reverse (slice from to list)) i 0
stretch_turned list from to i h e k =
    let long : length (slice from to list) ≡ to - from = length-slice from to list e in
    let there : from + (length (slice from to list) - 1 - i) ≡ to - 1 - i = omega (arith, long) in
    ap (λ (j : ℕ). get_or list j 0) (sym there)
    ∙ stretch_straight list from to (length (slice from to list) - 1 - i) h (omega (arith, long))
    ∙ get_or-reverse (slice from to list) i (omega (arith, long))

-- turning keeps the length
turned_long : (turned : Bool) (list : List ℕ) (from to : ℕ) → to ≤ length list → length (turn turned (slice from to list)) ≡ to - from
turned_long false list from to h = length-slice from to list h
turned_long true list from to h = length-reverse (slice from to list) ∙ length-slice from to list h

-- four parts, each read where it stands
module _ (A X Y D : List ℕ) (a x y k : ℕ) (of_A : length A ≡ a) (of-X : length X ≡ x) (of-Y : length Y ≡ y) where
  abbrev whole : List ℕ
  whole = A ++ (X ++ Y) ++ D

  front : length (A ++ (X ++ Y)) ≡ a + x + y
  front = omega (arith, length-append A (X ++ Y), length-append X Y, of_A, of-X, of-Y)

  pieces : length (X ++ Y) ≡ x + y
  pieces = omega (arith, length-append X Y, of-X, of-Y)

  in_A : k < a → get_or A k 0 ≡ get_or whole k 0
  in_A h = before A (X ++ Y) a k of_A h ∙ before (A ++ (X ++ Y)) D (a + x + y) k front (omega arith)

  in_X : a ≤ k → k < a + x → get_or X (k - a) 0 ≡ get_or whole k 0
  in_X g h =
      before X Y x (k - a) of-X (omega arith) ∙ behind A (X ++ Y) a k of_A g ∙ before (A ++ (X ++ Y)) D (a + x + y) k front (omega arith)

  in_Y : a + x ≤ k → k < a + x + y → get_or Y (k - a - x) 0 ≡ get_or whole k 0
  in_Y g h =
      behind X Y x (k - a) of-X (omega arith) ∙ behind A (X ++ Y) a k of_A (omega arith)
      ∙ before (A ++ (X ++ Y)) D (a + x + y) k front h

  in_D : a + x + y ≤ k → get_or D (k - (a + x + y)) 0 ≡ get_or whole k 0
  in_D h = behind (A ++ (X ++ Y)) D (a + x + y) k front h

-- the visit at a position of the list laid out: in A or D, in B or C
module _ (list : List ℕ) (p : Layout) (k : ℕ) (w : CutIn (length list) p) where
  abbrev A : List ℕ
  A = take p.b list

  abbrev B : List ℕ
  B = turn p.way.b_turned (slice p.b p.c list)

  abbrev C : List ℕ
  C = turn p.way.c_turned (slice p.c p.d list)

  abbrev D : List ℕ
  D = drop p.d list

  of_A : length A ≡ p.b
  of_A = length-take-le p.b list (omega (arith, w.b_c, w.c_d, w.d_n))

  of_B : length B ≡ p.c - p.b
  of_B = turned_long p.way.b_turned list p.b p.c (omega (arith, w.c_d, w.d_n))

  of_C : length C ≡ p.d - p.c
  of_C = turned_long p.way.c_turned list p.c p.d w.d_n

  pub read_head : k < p.b → get_or list k 0 ≡ get_or (laid list p) k 0
  unfolding laid
  read_head h = go p.way.exchanged
    where
      go : (e : Bool) → get_or list k 0 ≡ get_or (A ++ in_order e B C ++ D) k 0
      go false = sym (get_or-take p.b list k 0 h) ∙ in_A A B C D _ _ _ k of_A of_B of_C h
      go true = sym (get_or-take p.b list k 0 h) ∙ in_A A C B D _ _ _ k of_A of_C of_B h

  pub read_tail : p.d ≤ k → get_or list k 0 ≡ get_or (laid list p) k 0
  unfolding laid
  read_tail h = go p.way.exchanged
    where
      there : get_or list k 0 ≡ get_or D (k - p.d) 0
      there = let at : p.d + (k - p.d) ≡ k = omega arith in sym (get_or-drop p.d list (k - p.d) 0 ∙ ap (λ (i : ℕ). get_or list i 0) at)

      one : k - p.d ≡ k - (p.b + (p.c - p.b) + (p.d - p.c))
      one = omega (arith, w.b_c, w.c_d)

      other : k - p.d ≡ k - (p.b + (p.d - p.c) + (p.c - p.b))
      other = omega (arith, w.b_c, w.c_d)

      go : (e : Bool) → get_or list k 0 ≡ get_or (A ++ in_order e B C ++ D) k 0
      go false = there ∙ ap (λ (i : ℕ). get_or D i 0) one ∙ in_D A B C D _ _ _ k of_A of_B of_C (omega (arith, w.b_c, w.c_d))
      go true = there ∙ ap (λ (i : ℕ). get_or D i 0) other ∙ in_D A C B D _ _ _ k of_A of_C of_B (omega (arith, w.b_c, w.c_d))

  -- B and then C
  pub read_B : p.way.exchanged ≡ false → p.b ≤ k → k < p.c → get_or B (k - p.b) 0 ≡ get_or (laid list p) k 0
  unfolding laid
  read_B e g h = rw e (in_X A B C D _ _ _ k of_A of_B of_C g (omega (arith, w.b_c)))

  pub read_C : p.way.exchanged ≡ false → p.c ≤ k → k < p.d → get_or C (k - p.c) 0 ≡ get_or (laid list p) k 0
  unfolding laid
  read_C e g h =
      let at : k - p.c ≡ k - p.b - (p.c - p.b) = omega (arith, w.b_c) in
      rw (e, at) (in_Y A B C D _ _ _ k of_A of_B of_C (omega (arith, w.b_c)) (omega (arith, w.b_c, w.c_d)))

  -- C and then B
  pub read_C-first : p.way.exchanged ≡ true → p.b ≤ k → k < p.b + (p.d - p.c) → get_or C (k - p.b) 0 ≡ get_or (laid list p) k 0
  unfolding laid
  read_C-first e g h = rw e (in_X A C B D _ _ _ k of_A of_C of_B g h)

  pub read_B_second : p.way.exchanged ≡ true → p.b + (p.d - p.c) ≤ k → k < p.d → get_or B (k - (p.b + (p.d - p.c))) 0 ≡ get_or (laid list p) k 0
  unfolding laid
  read_B_second e g h =
      let at : k - (p.b + (p.d - p.c)) ≡ k - p.b - (p.d - p.c) = omega arith in
      rw (e, at) (in_Y A C B D _ _ _ k of_A of_C of_B g (omega (arith, w.b_c, w.c_d)))

-- ---- a reversal

pub reversal_cut : (n first end : ℕ) → first ≤ end → end ≤ n → CutIn n (layout first end end (false, true, false))
reversal_cut n first end h k = record { b_c = h; c_d = omega arith; d_n = k }

pub reversal_is : (list : List ℕ) (first end : ℕ) → laid list (layout first end end (false, true, false)) ≡ reversed first end list
unfolding laid reversed
reversal_is list first end = rw (slice_empty end list, append-nil (reverse (slice first end list)))

-- as the code has it
pub reversal_laid : (list : List ℕ) (first end : ℕ) (p : Layout) → p ≡ layout first end end (false, true, false) → laid list p ≡ reversed first end list
reversal_laid list first end p e = ap (laid list) e ∙ reversal_is list first end

-- ---- a reconnection

pub reconnection_cut : (n i j k : ℕ) (way : Arrangement) → i < j → j < k → k < n → CutIn n (layout (i + 1) (j + 1) (k + 1) way)
reconnection_cut n i j k way h g l = record { b_c = omega arith; c_d = omega arith; d_n = omega arith }

pub reconnection_is : (list : List ℕ) (i j k : ℕ) (way : Arrangement)
    → laid list (layout (i + 1) (j + 1) (k + 1) way) ≡ reconnect list (record { cut = record { i = i; j = j; k = k }; way = way })
unfolding laid
reconnection_is list i j k way = rw (add-one i, add-one j, add-one k)
