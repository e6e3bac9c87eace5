-- A block of rows: moves of one kind, the rows from k on one behind another in the tables, each in `width` entries. For src/. Assumes nothing.
use Rattle.std.specs.Prelude.{◌≡◌, Bool, true, false, List, ℕ, ◌+◌, ◌-◌, ◌*◌, ◌≤◌, ◌<◌, ℤ, length, get_or, Float}
use Rattle.std.specs.Float.{nan}
use Rattle.day.specs.declared.vehicle.Van.{Van}
use Rattle.labels.specs.Columns.{Columns}
use Rattle.cross_moves.specs.CrossDepot.{holds}
use Rattle.cross_rows.specs.Row.{changed, cost_unless}
use Rattle.cross_kinds.specs.Kinds.{tested_in, row_of, turned_row, rows_in, width_of}
use Rattle.cross_kinds.specs.declared.kind.Kind.{Kind}
use Rattle.cross_kinds.specs.declared.kind.Row.{Row}
use Rattle.cross_choices.specs.Rows.{mark_of, same_as}

-- what a caller shows of a block
pub record Block (kind : Kind) (n1 n2 k width rows : ℕ) : Type 0 where
  pub within : k + rows ≤ rows_in kind n1
  pub some : 0 < rows
  pub room : rows * width ≤ 64
  pub is_width : width ≡ width_of kind n2

-- up to the last move of a block
unfoldable pub entries_in : Kind → ℕ → ℕ → ℕ → ℕ → ℕ → ℕ
entries_in kind n1 n2 k width rows = (rows - 1) * width + (row_of kind n1 n2 (k + (rows - 1))).count

-- the table has f i j at entry j of row i, for the first entries of each row
pub record InRows (f : ℕ → ℕ → Float) (counts : ℕ → ℕ) (width rows : ℕ) (table : List Float) : Type 0 where
  pub entry : (i j : ℕ) → i < rows → j < counts i → get_or table (i * width + j) nan ≡ f i j

-- the mark of move j of row k
abbrev pub mark_at : List ℤ → Van → Van → List ℕ → List ℕ → Kind → ℕ → ℕ → Float
mark_at demand van1 van2 X Y kind k j =
    mark_of (tested_in kind)
    (holds demand van1 (changed X (row_of kind (length X) (length Y) k).own Y (row_of kind (length X) (length Y) k).others j))
    (holds demand van2 (changed Y (row_of kind (length X) (length Y) k).others X (row_of kind (length X) (length Y) k).own j))

-- row k seen from a list of n visits that is the first one; or, turned, the second, of which every move makes another list
unfoldable pub side_of : Kind → Bool → ℕ → ℕ → ℕ → Row
side_of kind false n m k = row_of kind n m k
side_of kind true n m k = turned_row (row_of kind m n k)

-- what the list of move j costs; where moves make the same list, by the mark of the first
abbrev pub cost_in : Columns → Van → List ℕ → List ℕ → Row → (ℕ → Float) → ℕ → Float
cost_in c van list other side skip j =
    cost_unless c van (skip (same_as side.distinct j)) (changed list side.own other side.others (same_as side.distinct j))

-- the costs of a row
pub record CostedRow (c : Columns) (van : Van) (list other : List ℕ) (side : Row) (skip costs : List Float) : Type 0 where
  pub cost_at : (j : ℕ) → j < side.count → get_or costs j nan ≡ cost_in c van list other side (λ i. get_or skip i nan) j

-- the costs of a block
abbrev pub CostedBlock : Columns → Van → List ℕ → List ℕ → Kind → Bool → ℕ → ℕ → ℕ → List Float → List Float → Type 0
CostedBlock c van list other kind turned k width rows skip costs =
    InRows (λ i. cost_in c van list other (side_of kind turned (length list) (length other) (k + i)) (λ j. get_or skip (i * width + j) nan))
    (λ i. (side_of kind turned (length list) (length other) (k + i)).count) width rows costs

-- the marks of a block
abbrev pub MarkedBlock : List ℤ → Van → Van → List ℕ → List ℕ → Kind → ℕ → ℕ → ℕ → List Float → Type 0
MarkedBlock demand van1 van2 X Y kind k width rows marks =
    InRows (λ i. mark_at demand van1 van2 X Y kind (k + i)) (λ i. (row_of kind (length X) (length Y) (k + i)).distinct) width rows marks
