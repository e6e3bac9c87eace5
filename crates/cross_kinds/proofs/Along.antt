-- The rows of a kind of moves: their stretches are those of its moves, lie in the two lists, and come in the definition's order. Assumes nothing.
use mathlib.Core.Path.{◌≡◌, refl}
use mathlib.Core.Bool.{Bool, true, false, cond}
use Prim.Native.Nat.{ℕ, ◌+◌, ◌≤◌, ◌<◌}
use native.Mathlib.Omega.{arith}
use lib.Dec.{eqb}
use Rattle.cross_moves.specs.CrossDepot.{is_tested, cuts}
use Rattle.cross_moves.specs.declared.pair.Pair.{Pair}
use Rattle.cross_moves.specs.declared.pair.Move.{Move}
use Rattle.cross_rows.specs.Row.{from_at, to_at, Rowed}
use Rattle.cross_kinds.specs.Kinds.{tested_in, move_at, row_of, rows_in}
use Rattle.cross_rows.specs.declared.Stretch.{Stretch}
use Rattle.cross_kinds.specs.declared.kind.Kind.{Kind}
use Rattle.cross_kinds.specs.declared.kind.Kind.TheVariants.{Relocation, Swap, Tails}
use Rattle.cross_kinds.specs.declared.kind.Row.{Row}

-- the stretches of move j
pub record Same (own others : Stretch) (m : Move) (j : ℕ) : Type 0 where
  pub from1_is : from_at own j ≡ m.from1
  pub to1_is : to_at own j ≡ m.to1
  pub from2_is : from_at others j ≡ m.from2
  pub to2_is : to_at others j ≡ m.to2

pub row_stretches : (kind : Kind) (pair : Pair) (n1 n2 k j : ℕ)
    → Same (row_of kind n1 n2 k).own (row_of kind n1 n2 k).others (move_at kind pair n1 n2 k j) j
unfolding row_of move_at
row_stretches Relocation pair n1 n2 k j = record { from1_is = omega arith; to1_is = omega arith; from2_is = omega arith; to2_is = omega arith }
row_stretches Swap pair n1 n2 k j = record { from1_is = omega arith; to1_is = omega arith; from2_is = omega arith; to2_is = omega arith }
row_stretches Tails pair n1 n2 k j = record { from1_is = omega arith; to1_is = omega arith; from2_is = omega arith; to2_is = omega arith }

pub move_tested : (kind : Kind) (pair : Pair) (n1 n2 k j : ℕ) → is_tested (move_at kind pair n1 n2 k j) ≡ tested_in kind
unfolding tested_in move_at
move_tested Relocation pair n1 n2 k j = refl
move_tested Swap pair n1 n2 k j = refl
move_tested Tails pair n1 n2 k j = refl

cuts-few : (n1 n2 k : ℕ) → cuts n1 n2 k ≤ n2 + 1
cuts-few n1 n2 k = by_test (eqb k n1)
  where
    by_test : (b : Bool) → cond b n2 (n2 + 1) ≤ n2 + 1
    by_test true = omega arith
    by_test false = omega arith

-- its stretches lie in the lists
pub row_within : (kind : Kind) (n1 n2 k : ℕ) → n1 + n2 ≤ 63 → k < rows_in kind n1
    → Rowed n1 n2 (row_of kind n1 n2 k).own (row_of kind n1 n2 k).others (row_of kind n1 n2 k).count
unfolding row_of rows_in
row_within Relocation n1 n2 k few h = record {
  own_steps = (omega arith, omega arith);
  other_steps = (omega arith, omega arith);
  few = omega (arith, few);
  ordered = λ j below. omega arith;
  within = λ j below. omega (arith, h);
  others_ordered = λ j below. omega arith;
  others_within = λ j below. omega (arith, below);
}
row_within Swap n1 n2 k few h = record {
  own_steps = (omega arith, omega arith);
  other_steps = (omega arith, omega arith);
  few = omega (arith, few);
  ordered = λ j below. omega arith;
  within = λ j below. omega (arith, h);
  others_ordered = λ j below. omega arith;
  others_within = λ j below. omega (arith, below);
}
row_within Tails n1 n2 k few h = record {
  own_steps = (omega arith, omega arith);
  other_steps = (omega arith, omega arith);
  few = omega (arith, few, cuts-few n1 n2 k);
  ordered = λ j below. omega (arith, h);
  within = λ j below. omega arith;
  others_ordered = λ j below. omega (arith, below, cuts-few n1 n2 k);
  others_within = λ j below. omega arith;
}

-- the moves that are priced for the first list are moves of the row
pub distinct_few : (kind : Kind) (n1 n2 k : ℕ) → (row_of kind n1 n2 k).distinct ≤ (row_of kind n1 n2 k).count
unfolding row_of
distinct_few Relocation n1 n2 k = omega arith
distinct_few Swap n1 n2 k = omega arith
distinct_few Tails n1 n2 k = omega arith

-- a part of a row, and a row seen from the other list
pub row_part : {n m : ℕ} {own others : Stretch} {count : ℕ} (some : ℕ) → Rowed n m own others count → some ≤ count → Rowed n m own others some
row_part some row h = record {
  own_steps = row.own_steps;
  other_steps = row.other_steps;
  few = omega (arith, h, row.few);
  ordered = λ j below. row.ordered j (omega (arith, below, h));
  within = λ j below. row.within j (omega (arith, below, h));
  others_ordered = λ j below. row.others_ordered j (omega (arith, below, h));
  others_within = λ j below. row.others_within j (omega (arith, below, h));
}

pub row_turned : {n m : ℕ} {own others : Stretch} {count : ℕ} → Rowed n m own others count → Rowed m n others own count
row_turned row = record {
  own_steps = row.other_steps;
  other_steps = row.own_steps;
  few = row.few;
  ordered = row.others_ordered;
  within = row.others_within;
  others_ordered = row.ordered;
  others_within = row.within;
}

pub rows_few : (kind : Kind) (n : ℕ) → rows_in kind n ≤ n + 1
unfolding rows_in
rows_few Relocation n = omega arith
rows_few Swap n = omega arith
rows_few Tails n = omega arith

-- of a row that is worked out: it lies in both lists, seen from either
module _ (kind : Kind) (n1 n2 k : ℕ) (row : Row) (is : row ≡ row_of kind n1 n2 k) (few : n1 + n2 ≤ 63) (h : k < rows_in kind n1) where
  pub row_lies : Rowed n1 n2 row.own row.others row.count
  row_lies = rw is (row_within kind n1 n2 k few h)

  pub row_some : Rowed n1 n2 row.own row.others row.distinct
  row_some = row_part row.distinct row_lies (rw is (distinct_few kind n1 n2 k))
