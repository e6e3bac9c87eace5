-- The flat table and the lists that it holds, both ways; where a list lies; and another list in a list's place. Each by induction on the lengths, or on
-- the lists. Assumes nothing.
use mathlib.Core.Path.{◌≡◌, refl, sym, ap, ◌∙◌}
use mathlib.Core.List.{List, [], ◌∷◌, append_assoc}
use Prim.Native.Nat.{ℕ, zero, suc, ◌+◌, ◌-◌, ◌<◌, ◌≤◌}
use native.Mathlib.Nat.{zero-add, add_assoc}
use native.Mathlib.Numerals.{add-one}
use native.Mathlib.Omega.{arith}
use lib.ListN.{length, get_or, set, take, drop, length-append, length-drop, length-take, take-append-drop}
use lib.Seq.{take-nil, take-length, take-append_seam, take-append-add, drop-drop, drop-append_seam, drop-append-add}
use lib.Seq.{get_or-take, get_or-drop, set-get_or, length-take-le}
use borrow.Rule.Slice.PartMut.{put_mid, Post-is}
use Rattle.edits.specs.Total.{total, total_append}
use Rattle.lists.specs.Table.{Laid, sum, lists, flat, lengths_of, start_of, list_of, with_list}

-- so many lists as lengths
pub length-lists : (visits lengths : List ℕ) → length (lists visits lengths) ≡ length lengths
unfolding lists
length-lists visits [] = refl
length-lists visits (n ∷ lengths) = ap suc (length-lists (drop n visits) lengths)

-- the table is as long as the lengths together
pub length-flat : (ls : List (List ℕ)) → length (flat ls) ≡ sum (lengths_of ls)
unfolding flat lengths_of
length-flat [] = refl
length-flat (xs ∷ ls) = simp length-append (omega (arith, length-flat ls))

-- both ways: the tables of the lists of two tables are these, where the lengths add up
pub flat-lists : (visits lengths : List ℕ) → sum lengths ≡ length visits → flat (lists visits lengths) ≡ visits
unfolding lists flat
flat-lists [] [] h = refl
flat-lists (v ∷ visits) [] h = absurd (omega arith)
flat-lists visits (n ∷ lengths) h =
    rw (flat-lists (drop n visits) lengths (omega (arith, length-drop n visits))) (take-append-drop n visits)

pub lengths_lists : (visits lengths : List ℕ) → sum lengths ≡ length visits → lengths_of (lists visits lengths) ≡ lengths
unfolding lists lengths_of
lengths_lists visits [] h = refl
lengths_lists visits (n ∷ lengths) h =
    rw (lengths_lists (drop n visits) lengths (omega (arith, length-drop n visits)), length-take-le n visits (omega arith))

-- and the lists of the tables of lists are these
pub lists-flat : (ls : List (List ℕ)) → lists (flat ls) (lengths_of ls) ≡ ls
unfolding lists flat lengths_of
lists-flat [] = refl
lists-flat (xs ∷ ls) = rw (take-append_seam xs (flat ls), drop-append_seam xs (flat ls), lists-flat ls)

-- list r of the lists is its part of the visits
pub at_lists : (visits lengths : List ℕ) (r : ℕ) → get_or (lists visits lengths) r [] ≡ list_of visits lengths r
unfolding lists list_of start_of
at_lists visits [] r = refl
at_lists visits (n ∷ lengths) zero = refl
at_lists visits (n ∷ lengths) (suc r) = rw (at_lists (drop n visits) lengths r, drop-drop)

-- so many lengths as lists, each its list's
pub length_lengths : (ls : List (List ℕ)) → length (lengths_of ls) ≡ length ls
unfolding lengths_of
length_lengths [] = refl
length_lengths (xs ∷ ls) = ap suc (length_lengths ls)

pub at_lengths : (ls : List (List ℕ)) (r : ℕ) → get_or (lengths_of ls) r 0 ≡ length (get_or ls r [])
unfolding lengths_of
at_lengths [] r = refl
at_lengths (xs ∷ ls) zero = refl
at_lengths (xs ∷ ls) (suc r) = at_lengths ls r

-- another list in the place of list r, in the table and in the lengths
pub flat-set : (ls : List (List ℕ)) (r : ℕ) (new : List ℕ) → r < length ls → flat (set ls r new) ≡ with_list (flat ls) (lengths_of ls) r new
unfolding flat lengths_of with_list start_of
flat-set [] r new h = absurd (omega arith)
flat-set (xs ∷ ls) zero new h = rw (zero-add (length xs), drop-append_seam xs (flat ls))
flat-set (xs ∷ ls) (suc r) new h =
    rw (flat-set ls r new (omega arith), add_assoc (length xs), take-append-add, drop-append-add) (sym (append_assoc xs _ _))

pub lengths_set : (ls : List (List ℕ)) (r : ℕ) (new : List ℕ) → lengths_of (set ls r new) ≡ set (lengths_of ls) r (length new)
unfolding lengths_of
lengths_set [] r new = refl
lengths_set (xs ∷ ls) zero new = refl
lengths_set (xs ∷ ls) (suc r) new = ap (λ z. length xs ∷ z) (lengths_set ls r new)

-- tables that are those of lists hold these lists
pub lists_are : (visits lengths : List ℕ) (ls : List (List ℕ)) → visits ≡ flat ls → lengths ≡ lengths_of ls → lists visits lengths ≡ ls
lists_are visits lengths ls v n = rw (v, n) (lists-flat ls)

-- every sum over the visits of all lists is the sum over the table
pub total-flat : (f : ℕ → ℕ) (ls : List (List ℕ)) → total f (flat ls) ≡ total (total f) ls
unfolding flat
total-flat f [] = refl
total-flat f (xs ∷ ls) = rw (total_append, total-flat f ls)

start_suc : (lengths : List ℕ) (r : ℕ) → start_of lengths r + get_or lengths r 0 ≡ start_of lengths (suc r)
unfolding start_of
start_suc [] r = rw take-nil
start_suc (n ∷ lengths) zero = omega arith
start_suc (n ∷ lengths) (suc r) = let rest = start_suc lengths r in omega arith

-- the next list starts where list r ends
pub start_more : (lengths : List ℕ) (r : ℕ) → start_of lengths r + get_or lengths r 0 ≡ start_of lengths (r + 1)
start_more lengths r = rw add-one (start_suc lengths r)

-- the first list starts at 0, and behind the last is the end of the table
pub start_none : (lengths : List ℕ) → 0 ≡ start_of lengths 0
unfolding start_of
start_none lengths = refl

pub start_all : (lengths : List ℕ) → start_of lengths (length lengths) ≡ sum lengths
unfolding start_of
start_all lengths = rw take-length

-- a list ends before a later one starts, and before the table ends
pub start_later : (lengths : List ℕ) (r s : ℕ) → r < s → start_of lengths r + get_or lengths r 0 ≤ start_of lengths s
unfolding start_of
start_later [] r s h = rw (take-nil r, take-nil s) (omega arith)
start_later (n ∷ lengths) r zero h = absurd (omega arith)
start_later (n ∷ lengths) zero (suc s) h = omega arith
start_later (n ∷ lengths) (suc r) (suc s) h = let rest = start_later lengths r s (omega arith) in omega arith

pub start_within : (lengths : List ℕ) (r : ℕ) → start_of lengths r + get_or lengths r 0 ≤ sum lengths
unfolding start_of
start_within [] r = rw take-nil (omega arith)
start_within (n ∷ lengths) zero = omega arith
start_within (n ∷ lengths) (suc r) = let rest = start_within lengths r in omega arith

-- a list ends within the table
pub list_within : (visits lengths : List ℕ) → Laid visits lengths → (r : ℕ) → start_of lengths r + get_or lengths r 0 ≤ length visits
list_within visits lengths laid r = omega (arith, start_within lengths r, laid.add_up)

-- the caller's part from where list r starts to where it ends is the list; and the part given back as `new` is that list in its place
module _ (visits lengths : List ℕ) (r start end : ℕ) (starts : start ≡ start_of lengths r)
    (ends : end ≡ start_of lengths r + get_or lengths r 0) where
  pub part_is : take (end - start) (drop start visits) ≡ list_of visits lengths r
  unfolding list_of
  part_is = let n : end - start ≡ get_or lengths r 0 = omega arith in rw (n, starts)

  pub put_is : (new : List ℕ) → put_mid start (end - start) visits new ≡ with_list visits lengths r new
  unfolding with_list
  put_is new = rw (Post-is start end visits (omega arith), ends, starts)

-- ---- laws of two tables whose lengths add up

module _ (visits lengths : List ℕ) (add-up : sum lengths ≡ length visits) where
  -- list r is as long as its length says
  pub length_list : (r : ℕ) → length (list_of visits lengths r) ≡ get_or lengths r 0
  unfolding list_of
  length_list r = simp (length-take, length-drop) (omega (arith, start_within lengths r))

  pub length_at : (r : ℕ) → length (get_or (lists visits lengths) r []) ≡ get_or lengths r 0
  length_at r = ap length (at_lists visits lengths r) ∙ length_list r

  -- its visits are those of the table from its start on
  pub list_at : (r k : ℕ) → k < get_or lengths r 0 → get_or (list_of visits lengths r) k 0 ≡ get_or visits (start_of lengths r + k) 0
  unfolding list_of
  list_at r k h = rw (get_or-take (get_or lengths r 0) (drop (start_of lengths r) visits) k 0 h, get_or-drop (start_of lengths r) visits k 0)

  -- every sum over the visits of all lists is the sum over the table
  pub total-lists : (f : ℕ → ℕ) → total (total f) (lists visits lengths) ≡ total f visits
  total-lists f = sym (total-flat f (lists visits lengths)) ∙ ap (total f) (flat-lists visits lengths add-up)

  -- another list in the place of list r: the table, and the lists that it then holds
  pub flat_with : (r : ℕ) (new : List ℕ) → r < length lengths → flat (set (lists visits lengths) r new) ≡ with_list visits lengths r new
  flat_with r new h =
      let there : r < length (lists visits lengths) = rw length-lists h in
      flat-set (lists visits lengths) r new there ∙ rw (flat-lists visits lengths add-up, lengths_lists visits lengths add-up)

  pub lists_with : (r : ℕ) (new : List ℕ) → r < length lengths
      → lists (with_list visits lengths r new) (set lengths r (length new)) ≡ set (lists visits lengths) r new
  lists_with r new h =
      lists_are _ _ (set (lists visits lengths) r new) (sym (flat_with r new h))
      (rw (lengths_set, lengths_lists visits lengths add-up))

  -- a list of the same length needs no new lengths
  pub lists_put : (r : ℕ) (new : List ℕ) → r < length lengths → length new ≡ get_or lengths r 0
      → lists (with_list visits lengths r new) lengths ≡ set (lists visits lengths) r new
  lists_put r new h e =
      let same : set lengths r (length new) ≡ lengths = rw e (set-get_or lengths r 0) in
      rw same at (lists_with r new h)
