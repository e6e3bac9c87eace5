-- A block decided by its tables: the first least delta over all its entries is the choice of row after row, since the entries of the rows come one behind
-- another and an entry's row and place are its quotient and remainder. Assumes nothing.
use mathlib.Core.Path.{◌≡◌, refl, sym, ap, ◌∙◌}
use mathlib.Core.Bool.{Bool, true, false, cond, not}
use mathlib.Core.List.{List}
use Prim.Native.Nat.{ℕ, zero, suc, ◌+◌, ◌-◌, ◌*◌, ◌/◌, ◌%◌, ◌≤◌, ◌<◌}
use native.Mathlib.Nat.{add-zero, zero-mul}
use native.Mathlib.Omega.{arith}
use borrow.Author.Tests.{ltb-true, ltb-false, not-true, ne_eqb}
use lib.Arith.{digits_div, digits_mod}
use lib.Dec.{eqb, ltb}
use lib.IntN.{ℤ}
use lib.ListN.{length, get_or}
use lib.Ieee.{Float, nan, inf, lt}
use Rattle.tests.specs.All.{all_at}
use Rattle.tests.specs.Pick.{other}
use Rattle.day.specs.declared.vehicle.Van.{Van}
use Rattle.labels.specs.Columns.{Columns}
use Rattle.descent.specs.Order.{range, scan}
use Rattle.descent.proofs.Loops.{scan_turn, scan_done}
use Rattle.cross_moves.specs.CrossDepot.{cuts}
use Rattle.cross_moves.specs.declared.pair.Pair.{Pair}
use Rattle.cross_kinds.specs.Kinds.{move_at, row_of, rows_in, width_of}
use Rattle.cross_kinds.specs.declared.kind.Kind.{Kind}
use Rattle.cross_kinds.specs.declared.kind.Kind.TheVariants.{Relocation, Swap, Tails}
use Rattle.cross_choices.specs.Scan.{better}
use Rattle.cross_choices.specs.Rows.{all_shut, lesser_of, delta_at, least_of, chosen_by_block, best_of_row}
use Rattle.cross_choices.specs.declared.Choice.{Choice}
use Rattle.cross_choices.specs.declared.Least.{Least}
use Rattle.cross_choices.proofs.Deciding.{Known, known_starts, nothing_yet, stands_on, told, Tabled, row_told, row_lost}
use Rattle.cross_blocks.specs.Blocks.{Block, entries_in, side_of, MarkedBlock, CostedBlock}
use Rattle.cross_blocks.proofs.Tables.{next_row, row_ends, same_as_own}

-- ---- a loop in two parts

scan_parts : {B : Type 0} (f : ℕ → B → B) (left a b c : ℕ) (x : B) → b ≡ a + left → b ≤ c
    → scan f (range b c) (scan f (range a b) x) ≡ scan f (range a c) x
scan_parts f zero a b c x e h =
    let same : b ≡ a = omega (arith, e) in
    rw (scan_done f a b x (omega (arith, e)), same)
scan_parts f (suc left) a b c x e h =
    let first = scan_turn f a b x (f a x) (omega (arith, e)) refl in
    let rest = scan_parts f left (a + 1) b c (f a x) (omega (arith, e)) h in
    ap (scan f (range b c)) (sym first) ∙ rest ∙ scan_turn f a c x (f a x) (omega (arith, e, h)) refl

pub scan_on : {B : Type 0} (f : ℕ → B → B) (a some c : ℕ) (x after : B) → after ≡ scan f (range a (a + some)) x → a + some ≤ c
    → scan f (range (a + some) c) after ≡ scan f (range a c) x
scan_on f a some c x after e h = ap (scan f (range (a + some) c)) e ∙ scan_parts f some a (a + some) c x refl h

-- ---- the rows of a block

pub width_few : (kind : Kind) (n2 : ℕ) → width_of kind n2 ≤ n2 + 1
unfolding width_of
width_few Relocation n2 = omega arith
width_few Swap n2 = omega arith
width_few Tails n2 = omega arith

cuts_last : (n1 n2 k : ℕ) → k < n1 → cuts n1 n2 k ≡ n2 + 1
cuts_last n1 n2 k h = sym (other (eqb k n1) n2 (n2 + 1) (n2 + 1) (ne_eqb k n1 (omega (arith, h))) refl)

cuts-few : (n1 n2 k : ℕ) → cuts n1 n2 k ≤ n2 + 1
cuts-few n1 n2 k = by_test (eqb k n1)
  where
    by_test : (b : Bool) → cond b n2 (n2 + 1) ≤ n2 + 1
    by_test true = omega arith
    by_test false = omega arith

-- no row has more moves than entries
pub row_wide : (kind : Kind) (n1 n2 k : ℕ) → (row_of kind n1 n2 k).count ≤ width_of kind n2
unfolding row_of width_of
row_wide Relocation n1 n2 k = omega arith
row_wide Swap n1 n2 k = omega arith
row_wide Tails n1 n2 k = cuts-few n1 n2 k

-- and all but the last of a kind have as many
row_full : (kind : Kind) (n1 n2 k : ℕ) → k + 1 < rows_in kind n1 → (row_of kind n1 n2 k).count ≡ width_of kind n2
unfolding row_of width_of rows_in
row_full Relocation n1 n2 k h = refl
row_full Swap n1 n2 k h = refl
row_full Tails n1 n2 k h = cuts_last n1 n2 k (omega (arith, h))

module _ {kind : Kind} {n1 n2 k width rows : ℕ} (block : Block kind n1 n2 k width rows) where
  abbrev count : ℕ → ℕ
  count i = (row_of kind n1 n2 (k + i)).count

  pub count_wide : (i : ℕ) → count i ≤ width
  count_wide i = rw block.is_width (row_wide kind n1 n2 (k + i))

  -- the entries of a row lie in the block
  pub row_inside : (i : ℕ) → i < rows → i * width + count i ≤ entries_in kind n1 n2 k width rows
  unfolding entries_in
  row_inside i h = by_test (ltb (i + 1) rows) refl
    where
      by_test : (b : Bool) → ltb (i + 1) rows ≡ b → i * width + count i ≤ (rows - 1) * width + (row_of kind n1 n2 (k + (rows - 1))).count
      by_test true e =
          let ends = row_ends i (rows - 1) width (omega (arith, ltb-true (i + 1) rows e)) in
          omega (arith, ends, count_wide i)
      by_test false e =
          let same : i ≡ rows - 1 = omega (arith, h, ltb-false (i + 1) rows e) in
          rw (← same) (omega arith)

  -- behind its last move comes the next row, or nothing
  row_behind : {B : Type 0} (f : ℕ → B → B) (x : B) (i : ℕ) → i < rows
      → scan f (range (i * width + count i) (entries_in kind n1 n2 k width rows)) x ≡ scan f (range ((i + 1) * width) (entries_in kind n1 n2 k width rows)) x
  unfolding entries_in
  row_behind f x i h = by_test (ltb (i + 1) rows) refl
    where
      by_test : (b : Bool) → ltb (i + 1) rows ≡ b
          → scan f (range (i * width + count i) ((rows - 1) * width + (row_of kind n1 n2 (k + (rows - 1))).count)) x
          ≡ scan f (range ((i + 1) * width) ((rows - 1) * width + (row_of kind n1 n2 (k + (rows - 1))).count)) x
      by_test true e =
          let full : count i ≡ width = row_full kind n1 n2 (k + i) (omega (arith, ltb-true (i + 1) rows e, block.within)) ∙ sym block.is_width in
          rw (full, next_row i width)
      by_test false e =
          let same : rows - 1 ≡ i = omega (arith, h, ltb-false (i + 1) rows e) in
          let total = (rows - 1) * width + (row_of kind n1 n2 (k + (rows - 1))).count in
          let ends : total ≡ i * width + count i = rw same in
          scan_done f (i * width + count i) total x (omega (arith, ends))
          ∙ sym (scan_done f ((i + 1) * width) total x (omega (arith, ends, next_row i width, count_wide i)))

  -- and no move lies behind the last row
  pub block_ends : entries_in kind n1 n2 k width rows ≤ rows * width
  unfolding entries_in
  block_ends = omega (arith, row_ends (rows - 1) rows width (omega (arith, block.some)), count_wide (rows - 1))

-- ---- the choice

module _ (c : Columns) (demand : List ℤ) (pair : Pair) (X Y : List ℕ) (kind : Kind) (k width rows : ℕ) (marks costs1 : List Float)
    (block : Block kind (length X) (length Y) k width rows) (van1 van2 : Van) (is1 : van1 ≡ pair.van1) (is2 : van2 ≡ pair.van2)
    (marked : MarkedBlock demand van1 van2 X Y kind k width rows marks)
    (costed1 : CostedBlock c van1 X Y kind false k width rows marks costs1) where
  abbrev total : ℕ
  total = entries_in kind (length X) (length Y) k width rows

  tabled : (i : ℕ) → i < rows → Tabled c demand pair X Y kind (k + i) (λ j. get_or marks (i * width + j) nan) (λ j. get_or costs1 (i * width + j) nan)
  unfolding side_of
  tabled i h = record {
    marks_are = λ j below. rw (is1, is2) at (marked.entry i j h below);
    costs1_are = λ j below. rw is1 at (costed1.entry i j h below);
  }

  -- a block of which no first list costs less than infinity changes nothing
  pub block_shut : all_shut costs1 total ≡ true → (best : Choice) → best ≡ scan (best_of_row c demand pair X Y kind) (range k (k + rows)) best
  block_shut shut best =
      sym (stays rows k (omega arith) (omega arith))
    where
      lost : (e : ℕ) → e < total → lt (get_or costs1 e nan) (inf false) ≡ false
      lost e h = not-true _ (all_at (λ i. not (lt (get_or costs1 i nan) (inf false))) total e h shut)

      row : (i : ℕ) → i < rows → best_of_row c demand pair X Y kind (k + i) best ≡ best
      row i h = row_lost (tabled i h) (λ j below. lost (i * width + j) (omega (arith, below, row_inside block i h))) best

      stays : (left at : ℕ) → k + rows ≡ at + left → k ≤ at → scan (best_of_row c demand pair X Y kind) (range at (k + rows)) best ≡ best
      stays zero at e h = scan_done _ at (k + rows) best (omega (arith, e))
      stays (suc left) at e h =
          let more : at < k + rows = omega (arith, e) in
          let i = at - k in
          let same : k + i ≡ at = omega (arith, h) in
          let here = rw same at (row i (omega (arith, e, h))) in
          sym (scan_turn (best_of_row c demand pair X Y kind) at (k + rows) best best more (sym here)) ∙ stays left (at + 1) (omega (arith, e)) (omega (arith, h))

  module _ (costs2 : List Float) (costed2 : CostedBlock c van2 Y X kind true k width rows costs1 costs2) (best : Choice) where
    abbrev stands : Least → Choice
    stands least = chosen_by_block kind pair (length X) (length Y) k width total costs1 costs2 least best

    abbrev Knows : Least → Type 0
    Knows least = Known kind pair (length X) (length Y) k width total costs1 costs2 best least

    abbrev step : ℕ → Least → Least
    step e = lesser_of e (delta_at pair.before costs1 costs2 e)

    told_by : (i : ℕ) → i < rows → (j : ℕ) → j < (row_of kind (length X) (length Y) (k + i)).count → (b : Choice)
        → better c demand pair X Y (move_at kind pair (length X) (length Y) (k + i) j) b
        ≡ told pair (move_at kind pair (length X) (length Y) (k + (i * width + j) / width) ((i * width + j) % width))
        (get_or costs1 (i * width + j) nan) (get_or costs2 (i * width + j) nan) b
    unfolding side_of
    told_by i h j below b =
        let inside : j < width = omega (arith, below, count_wide block i) in
        rw (digits_div i inside, digits_mod i inside)
        (row_told (tabled i h) (λ j. get_or costs2 (i * width + j) nan)
        (λ j below. rw (is2, same_as_own (row_of kind (length X) (length Y) (k + i)).count j below) at (costed2.entry i j h below)) j below b)

    -- all rows from row i of the block on
    rows_on : (left i : ℕ) (least : Least) → rows ≡ i + left → Knows least
        → (scan (best_of_row c demand pair X Y kind) (range (k + i) (k + rows)) (stands least) ≡ stands (scan step (range (i * width) total) least))
        × Knows (scan step (range (i * width) total) least)
    unfolding best_of_row
    rows_on zero i least e known =
        let same : rows ≡ i = omega (arith, e) in
        let done : total ≤ i * width = rw (← same) (block_ends block) in
        let last = scan_done step (i * width) total least done in
        rw last (scan_done (best_of_row c demand pair X Y kind) (k + i) (k + rows) (stands least) (omega (arith, e)), known)
    rows_on (suc left) i least e known =
        let h : i < rows = omega (arith, e) in
        let count = (row_of kind (length X) (length Y) (k + i)).count in
        let f : ℕ → Choice → Choice = λ j. better c demand pair X Y (move_at kind pair (length X) (length Y) (k + i) j) in
        let row = rw (add-zero (i * width)) at
        (stands_on kind pair (length X) (length Y) k width total costs1 costs2 best f (i * width) count count 0 least (omega arith) (row_inside block i h)
        (told_by i h) known) in
        let next = scan step (range (i * width) (i * width + count)) least in
        let rest = rows_on left (i + 1) next (omega (arith, e)) row.1 in
        let joined : scan step (range ((i + 1) * width) total) next ≡ scan step (range (i * width) total) least =
        sym (row_behind block step next i h) ∙ scan_parts step count (i * width) (i * width + count) total least refl (row_inside block i h) in
        let shifted : k + (i + 1) ≡ k + i + 1 = omega arith in
        let on = rw (shifted, joined) at rest in
        (sym (scan_turn (best_of_row c demand pair X Y kind) (k + i) (k + rows) (stands least) (stands next) (omega (arith, h)) (sym row.0)) ∙ on.0, on.1)

    module _ (least : Least) (is : least ≡ least_of pair.before total costs1 costs2 best.delta) where
      decided : (scan (best_of_row c demand pair X Y kind) (range k (k + rows)) best ≡ stands least) × Knows least
      unfolding least_of
      decided =
          let on = rw (add-zero k, zero-mul width) at
          (rows_on rows 0 (record { at = total; delta = best.delta }) (omega arith)
          (known_starts kind pair (length X) (length Y) k width total costs1 costs2 best)) in
          let yet = nothing_yet kind pair (length X) (length Y) k width total costs1 costs2 best in
          rw is (ap (scan (best_of_row c demand pair X Y kind) (range k (k + rows))) yet ∙ on.0, on.1)

      pub least_few : least.at ≤ total
      least_few = decided.1.few

      -- the choice of the block is that of its rows
      pub block_chosen : (r : Choice) → r ≡ stands least → r ≡ scan (best_of_row c demand pair X Y kind) (range k (k + rows)) best
      block_chosen r e = e ∙ sym decided.0
