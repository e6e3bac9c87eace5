-- A row of moves as the functions of the search state it: which are open, the first least delta, and the best after the row. For src/. Assumes nothing.
use Rattle.std.specs.Prelude.{◌≡◌, Bool, false, cond, not, ◌&&◌, ◌||◌, List, ℕ, ◌+◌, ◌/◌, ◌%◌, ◌≤◌, ◌<◌, eqb, ltb, ℤ, length, get_or, Float}
use Rattle.std.specs.Float.{nan, inf}
use Rattle.std.specs.Float.Ieee.{lt}
use Rattle.numbers.specs.Operations.{◌⊕◌, ◌⊖◌, zero64}
use Rattle.tests.specs.All.{all_below}
use Rattle.labels.specs.Columns.{Columns}
use Rattle.descent.specs.Order.{range, scan}
use Rattle.day.specs.declared.vehicle.Van.{Van}
use Rattle.cross_moves.specs.CrossDepot.{holds}
use Rattle.cross_moves.specs.declared.pair.Pair.{Pair}
use Rattle.cross_rows.specs.Row.{changed}
use Rattle.cross_kinds.specs.Kinds.{move_at, row_of, rows_in}
use Rattle.cross_rows.specs.declared.Stretch.{Stretch}
use Rattle.cross_choices.specs.Scan.{better}
use Rattle.cross_kinds.specs.declared.kind.Kind.{Kind}
use Rattle.cross_choices.specs.declared.Choice.{Choice}
use Rattle.cross_choices.specs.declared.Least.{Least}

-- a move is open where the loads that are tested are within the capacities
unfoldable pub mark_of : Bool → Bool → Bool → Float
mark_of tested first second = cond ((not tested || first) && second) zero64 (inf false)

-- the first `count` entries are the marks of a row's moves
pub record Marked (demand : List ℤ) (van1 van2 : Van) (X Y : List ℕ) (tested : Bool) (own others : Stretch) (count : ℕ) (marks : List Float) : Type 0 where
  pub mark_at : (j : ℕ) → j < count → get_or marks j nan
      ≡ mark_of tested (holds demand van1 (changed X own Y others j)) (holds demand van2 (changed Y others X own j))

-- none of the first `count` moves is open
abbrev pub all_shut : List Float → ℕ → Bool
all_shut marks count = all_below (λ k. not (lt (get_or marks k nan) (inf false))) count

-- a table whose entries from `from` on, up to `count`, are now its first entry
pub record Extended (xs ys : List Float) (from count : ℕ) : Type 0 where
  pub kept : (j : ℕ) → j < from → get_or ys j nan ≡ get_or xs j nan
  pub copied : (j : ℕ) → from ≤ j → 0 < from → j < count → get_or ys j nan ≡ get_or xs 0 nan

-- the move that makes the same first list as move j, where only the first `distinct` make different ones: itself, or the first
abbrev pub same_as : ℕ → ℕ → ℕ
same_as distinct j = cond (ltb j distinct) j 0

-- the first least so far, and one delta more
unfoldable pub lesser_of : ℕ → Float → Least → Least
lesser_of j delta least = cond (lt delta least.delta) (record { at = j; delta = delta }) least

-- the delta of move j, by what its two lists cost
abbrev pub delta_at : Float → List Float → List Float → ℕ → Float
delta_at before costs1 costs2 j = get_or costs1 j nan ⊕ get_or costs2 j nan ⊖ before

-- the first least delta of a row that is below `most`
unfoldable pub least_of : Float → ℕ → List Float → List Float → Float → Least
least_of before count costs1 costs2 most =
    scan (λ j. lesser_of j (delta_at before costs1 costs2 j)) (range 0 count) (record { at = count; delta = most })

-- the move that has it, or the best so far
unfoldable pub chosen_by : Kind → Pair → ℕ → ℕ → ℕ → ℕ → List Float → List Float → Least → Choice → Choice
chosen_by kind pair n1 n2 k count costs1 costs2 least best =
    cond (eqb least.at count) best (record {
      found = 1;
      chosen = move_at kind pair n1 n2 k least.at;
      delta = least.delta;
      cost1 = get_or costs1 least.at nan;
      cost2 = get_or costs2 least.at nan;
    })

-- the move that has it, or the best so far: the tables have rows of `width` moves, from row k on
unfoldable pub chosen_by_block : Kind → Pair → ℕ → ℕ → ℕ → ℕ → ℕ → List Float → List Float → Least → Choice → Choice
chosen_by_block kind pair n1 n2 k width count costs1 costs2 least best =
    cond (eqb least.at count) best (record {
      found = 1;
      chosen = move_at kind pair n1 n2 (k + least.at / width) (least.at % width);
      delta = least.delta;
      cost1 = get_or costs1 least.at nan;
      cost2 = get_or costs2 least.at nan;
    })

module _ (c : Columns) (demand : List ℤ) (pair : Pair) (X Y : List ℕ) (kind : Kind) where
  -- the best after the moves of a row
  unfoldable pub best_of_row : ℕ → Choice → Choice
  best_of_row k = scan (λ j. better c demand pair X Y (move_at kind pair (length X) (length Y) k j)) (range 0 (row_of kind (length X) (length Y) k).count)

  -- and after all rows
  unfoldable pub best_of_kind : Choice → Choice
  best_of_kind = scan best_of_row (range 0 (rows_in kind (length X)))
