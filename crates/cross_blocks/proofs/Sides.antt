-- A row seen from either list lies in both lists, and the rows of a block in their entries. Assumes nothing.
use mathlib.Core.Path.{◌≡◌}
use mathlib.Core.Bool.{Bool, true, false, cond}
use mathlib.Core.List.{List}
use Prim.Native.Nat.{ℕ, ◌+◌, ◌-◌, ◌*◌, ◌≤◌, ◌<◌}
use native.Mathlib.Nat.{mul-le-mul_right}
use native.Mathlib.Omega.{arith}
use lib.ListN.{length, get_or, take, drop}
use lib.Ieee.{Float, nan}
use borrow.Rule.Slice.PartMut.{mid_len}
use Rattle.labels.specs.Columns.{Columns}
use Rattle.day.specs.declared.vehicle.Van.{Van}
use Rattle.cross_rows.specs.Row.{Rowed, Costed}
use Rattle.cross_kinds.specs.Kinds.{row_of, rows_in, width_of}
use Rattle.cross_choices.specs.Rows.{same_as, Extended}
use Rattle.cross_choices.proofs.Deciding.{extended_costs}
use Rattle.cross_kinds.specs.declared.kind.Kind.{Kind}
use Rattle.cross_kinds.specs.declared.kind.Kind.TheVariants.{Relocation, Swap, Tails}
use Rattle.cross_kinds.specs.declared.kind.Row.{Row}
use Rattle.cross_kinds.proofs.Along.{rows_few, row_within, row_turned, distinct_few}
use Rattle.cross_blocks.specs.Blocks.{Block, entries_in, side_of, cost_in, CostedRow}
use Rattle.cross_blocks.proofs.Tables.{row_ends, same_as_few, lent_entry}
use Rattle.cross_blocks.proofs.Blocks.{row_wide, count_wide, block_ends}

-- what is asked of a row seen from a list of n visits, the other one having m
pub record Lying (kind : Kind) (turned : Bool) (n m : ℕ) (side : Row) : Type 0 where
  pub lies : Rowed n m side.own side.others side.count
  pub fewer : side.distinct ≤ side.count
  pub first : 0 < side.count → 0 < side.distinct
  pub wide : side.count ≤ width_of kind (cond turned n m)

first_distinct : (kind : Kind) (n1 n2 k : ℕ) → 0 < (row_of kind n1 n2 k).count → 0 < (row_of kind n1 n2 k).distinct
unfolding row_of
first_distinct Relocation n1 n2 k h = omega arith
first_distinct Swap n1 n2 k h = h
first_distinct Tails n1 n2 k h = h

pub side_lies : (kind : Kind) (turned : Bool) (n m k : ℕ) → n + m ≤ 63 → k < rows_in kind (cond turned m n) → Lying kind turned n m (side_of kind turned n m k)
unfolding side_of
side_lies kind false n m k few h = record {
  lies = row_within kind n m k few h;
  fewer = distinct_few kind n m k;
  first = first_distinct kind n m k;
  wide = row_wide kind n m k;
}
side_lies kind true n m k few h = record {
  lies = row_turned (row_within kind m n k (omega (arith, few)) h);
  fewer = omega arith;
  first = λ some. some;
  wide = row_wide kind m n k;
}

-- a row of lists that are short enough
pub side_few : (kind : Kind) (turned : Bool) (n m k : ℕ) → n + m ≤ 63 → k < rows_in kind (cond turned m n) → k ≤ 63
side_few kind false n m k few h = omega (arith, few, h, rows_few kind n)
side_few kind true n m k few h = omega (arith, few, h, rows_few kind m)

side_wide : (kind : Kind) (turned : Bool) (n m k : ℕ) → (side_of kind turned n m k).count ≤ width_of kind (cond turned n m)
unfolding side_of
side_wide kind false n m k = row_wide kind n m k
side_wide kind true n m k = row_wide kind m n k

-- the costs of a row, those of its first list copied on
module _ (c : Columns) (van : Van) (list other : List ℕ) (side : Row) (skip costs : List Float) where
  pub costed_row : (row : Row) (some : List Float) → row ≡ side → (0 < row.count → 0 < row.distinct)
      → Costed c van list row.own other row.others skip row.distinct some → Extended some costs row.distinct row.count
      → CostedRow c van list other side skip costs
  costed_row row some is first costed extended =
      rw (← is)
      (record {
        cost_at = extended_costs c van list other row.own row.others row.distinct row.count skip some costs first costed extended;
      })

-- ---- row i of a block

pub counts_wide : {kind : Kind} {k width rows : ℕ} (turned : Bool) (n m : ℕ) → Block kind (cond turned m n) (cond turned n m) k width rows → (i : ℕ)
    → (side_of kind turned n m (k + i)).count ≤ width
counts_wide {kind} {k} turned n m block i = rw block.is_width (side_wide kind turned n m (k + i))

module _ {kind : Kind} {n1 n2 k width rows : ℕ} (block : Block kind n1 n2 k width rows) (i : ℕ) (h : i < rows) where
  pub entries_few : i * width + width ≤ 64
  entries_few = omega (arith, row_ends i rows width h, block.room)

  pub row_there : k + i < rows_in kind n1
  row_there = omega (arith, block.within, h)

  -- as many entries of a table are lent as a row has
  pub lent_long : (xs : List Float) → length xs ≡ 64 → length (take (i * width + width - i * width) (drop (i * width) xs)) ≡ i * width + width - i * width
  lent_long xs long = mid_len (i * width) (i * width + width) xs (omega (arith, entries_few, long))

  pub lent_wide : (xs : List Float) → length xs ≡ 64 → width_of kind n2 ≤ length (take (i * width + width - i * width) (drop (i * width) xs))
  lent_wide xs long = omega (arith, lent_long xs long, block.is_width)

-- the tables have room for a block
module _ {kind : Kind} {n1 n2 k width rows : ℕ} (block : Block kind n1 n2 k width rows) where
  pub block_few : entries_in kind n1 n2 k width rows ≤ 64
  block_few = omega (arith, block_ends block, block.room)

  pub block_wide : n1 ≤ 63 → entries_in kind n1 n2 k width rows ≤ 64 * width
  block_wide few =
      let rows-few-here : rows ≤ 64 = omega (arith, block.within, rows_few kind n1, few) in
      omega (arith, block_ends block, mul-le-mul_right width rows-few-here)

pub distinct_wide : {kind : Kind} {n1 n2 k width rows : ℕ} → Block kind n1 n2 k width rows → (i : ℕ) → (row_of kind n1 n2 (k + i)).distinct ≤ width
distinct_wide {kind} {n1} {n2} {k} block i = omega (arith, distinct_few kind n1 n2 (k + i), count_wide block i)

-- the costs of a row whose marks are a part of a table
module _ (c : Columns) (van : Van) (list other : List ℕ) (side : Row) (a e : ℕ) (skip costs : List Float) where
  pub costed_part : (width : ℕ) → e ≡ a + width → side.count ≤ width → CostedRow c van list other side (take (e - a) (drop a skip)) costs
      → (j : ℕ) → j < side.count → get_or costs j nan ≡ cost_in c van list other side (λ i. get_or skip (a + i) nan) j
  costed_part width ends wide row j h =
      let few = same_as_few side.distinct j side.count h in
      rw (lent_entry a e (same_as side.distinct j) skip (omega (arith, few, ends, wide))) at (row.cost_at j h)
