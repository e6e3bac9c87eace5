-- A table of rows of `width` entries: a row of it is lent, filled in and put back, and the rows before it stay. Assumes nothing.
use mathlib.Core.Path.{◌≡◌, refl, sym, ap, ◌∙◌}
use mathlib.Core.Bool.{Bool, true, false, cond}
use mathlib.Core.List.{List, ◌++◌}
use Prim.Native.Nat.{ℕ, zero, suc, ◌+◌, ◌-◌, ◌*◌, ◌/◌, ◌≤◌, ◌<◌}
use native.Mathlib.Nat.{mul-le-mul_right, suc-mul, mul-zero, le-div_iff_mul-le, div-lt_iff_lt-mul}
use native.Mathlib.Numerals.{add-one}
use native.Mathlib.Omega.{arith}
use borrow.Author.Tests.{ltb-true, ltb-false, lt-ltb}
use borrow.Rule.Slice.PartMut.{put_mid, post_of, take_put}
use lib.Dec.{ltb}
use lib.ListN.{length, get_or, take, drop, get_or-append}
use lib.Seq.{get_or-take, get_or-drop, get_or-append-add, length-take-le}
use lib.Ieee.{Float, nan}
use Rattle.tests.specs.Pick.{picked}
use Rattle.cross_choices.specs.Rows.{same_as}
use Rattle.cross_blocks.specs.Blocks.{InRows}

-- where the row behind row i begins
pub next_row : (i width : ℕ) → (i + 1) * width ≡ i * width + width
next_row i width = rw (add-one i) (suc-mul i width)

-- a row ends before the table does
pub row_ends : (i rows width : ℕ) → i < rows → i * width + width ≤ rows * width
row_ends i rows width h =
    let below : (i + 1) * width ≤ rows * width = mul-le-mul_right width (omega (arith, h)) in
    omega (arith, below, next_row i width)

-- as many rows as 64 entries have room for, where there are more
module _ (width left : ℕ) (wide : width ≤ 64) (more : 64 < left * width) where
  pub width_some : 0 < width
  width_some = by_width width more
    where
      by_width : (w : ℕ) → 64 < left * w → 0 < w
      by_width zero h = absurd (omega (arith, rw (mul-zero left) at h))
      by_width (suc w) h = omega arith

  pub rows_some : 0 < 64 / width
  rows_some = (le-div_iff_mul-le width_some).1 (omega (arith, wide))

  pub rows_left : 64 / width ≤ left
  rows_left = omega (arith, (div-lt_iff_lt-mul width_some).1 more)

pub few_entries : (left width : ℕ) → left ≤ 64 → width ≤ 64 → left * width ≤ 4096
few_entries left width few wide = omega (arith, mul-le-mul_right width few, wide)

-- a move that makes a list of its own; and any move of a row
pub same_as_own : (distinct j : ℕ) → j < distinct → same_as distinct j ≡ j
same_as_own distinct j h = sym (picked (ltb j distinct) _ _ _ (lt-ltb j distinct h) refl)

pub same_as_few : (distinct j n : ℕ) → j < n → same_as distinct j < n
same_as_few distinct j n h = by_test (ltb j distinct)
  where
    by_test : (b : Bool) → cond b j 0 < n
    by_test true = h
    by_test false = omega (arith, h)

-- ---- one row lent and put back

module _ (a e : ℕ) (xs ys : List Float) (room : e ≤ length xs) (ends : a ≤ e) where
  put_before_lem : (at : ℕ) → at < a → get_or (put_mid a (e - a) xs ys) at nan ≡ get_or xs at nan
  put_before_lem at h =
      sym (get_or-take a (put_mid a (e - a) xs ys) at nan h)
      ∙ ap (λ (zs : List Float). get_or zs at nan) (take_put a (e - a) xs ys (omega (arith, room, ends)))
      ∙ get_or-take a xs at nan h

  put_here : (j : ℕ) → j < length ys → get_or (put_mid a (e - a) xs ys) (a + j) nan ≡ get_or ys j nan
  put_here j h =
      let long : length (take a xs) ≡ a = length-take-le a xs (omega (arith, room, ends)) in
      ap (λ (z : ℕ). get_or (put_mid a (e - a) xs ys) (z + j) nan) (sym long)
      ∙ get_or-append-add (take a xs) (ys ++ post_of a (e - a) xs) j nan
      ∙ get_or-append ys (post_of a (e - a) xs) nan j h

-- an entry of a row that is lent
pub lent_entry : (a e j : ℕ) (xs : List Float) → j < e - a → get_or (take (e - a) (drop a xs)) j nan ≡ get_or xs (a + j) nan
lent_entry a e j xs h = get_or-take (e - a) (drop a xs) j nan h ∙ get_or-drop a xs j nan

-- ---- row after row

module _ (f : ℕ → ℕ → Float) (counts : ℕ → ℕ) (width : ℕ) where
  pub rows_start : (xs : List Float) → InRows f counts width 0 xs
  rows_start xs = record { entry = λ i j none below. absurd (omega (arith, none)) }

  pub rows_end : (xs : List Float) (i rows : ℕ) → InRows f counts width i xs → rows ≤ i → InRows f counts width rows xs
  rows_end xs i rows so_far h = record { entry = λ i j there below. so_far.entry i j (omega (arith, there, h)) below }

  -- one row more
  pub rows_turn : (wide : (i : ℕ) → counts i ≤ width) (i a e : ℕ) (xs last : List Float) → a ≡ i * width → e ≡ a + width → e ≤ length xs
      → length last ≡ e - a → InRows f counts width i xs → ((j : ℕ) → j < counts i → get_or last j nan ≡ f i j)
      → InRows f counts width (i + 1) (put_mid a (e - a) xs last)
  rows_turn wide i a e xs last starts ends room long so_far here = record { entry = λ row j there below. by_row row j there below (ltb row i) refl }
    where
      by_row : (row j : ℕ) → row < i + 1 → j < counts row → (b : Bool) → ltb row i ≡ b
          → get_or (put_mid a (e - a) xs last) (row * width + j) nan ≡ f row j
      by_row row j there below true t =
          let before = row_ends row i width (ltb-true _ _ t) in
          put_before_lem a e xs last room (omega (arith, ends)) (row * width + j) (omega (arith, before, below, wide row, starts))
          ∙ so_far.entry row j (ltb-true _ _ t) below
      by_row row j there below false t =
          let same : row ≡ i = omega (arith, there, ltb-false row i t) in
          let inside : j < counts i = rw (← same) below in
          let entry = put_here a e xs last room (omega (arith, ends)) j (omega (arith, inside, wide i, long, ends)) in
          rw (same, ← starts) (entry ∙ here j inside)
