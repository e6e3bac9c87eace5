-- The kinds of moves between two lists as the search goes through them: a kind has rows, a row one stretch of the first list and, one after another, the
-- stretches of the second. For src/; the engine's own definition is cross_moves/specs/CrossDepot.antt. Assumes nothing.
use Rattle.std.specs.Prelude.{Bool, true, false, ℕ, ◌+◌}
use Rattle.cross_moves.specs.CrossDepot.{relocation, exchange, cuts}
use Rattle.cross_moves.specs.declared.pair.Pair.{Pair}
use Rattle.cross_moves.specs.declared.pair.Move.{Move}
use Rattle.cross_rows.specs.declared.Stretch.{Stretch}
use Rattle.cross_kinds.specs.declared.kind.Kind.{Kind}
use Rattle.cross_kinds.specs.declared.kind.Kind.TheVariants.{Relocation, Swap, Tails}
use Rattle.cross_kinds.specs.declared.kind.Row.{Row}

-- whether the load of the first list is tested: a relocation leaves it with less
unfoldable pub tested_in : Kind → Bool
tested_in Relocation = false
tested_in Swap = true
tested_in Tails = true

-- move k2 of row k1
unfoldable pub move_at : Kind → Pair → ℕ → ℕ → ℕ → ℕ → Move
move_at Relocation pair n1 n2 k1 k2 = relocation pair.one pair.other k1 k2
move_at Swap pair n1 n2 k1 k2 = exchange false pair.one pair.other n1 n2 k1 k2
move_at Tails pair n1 n2 k1 k2 = exchange true pair.one pair.other n1 n2 k1 k2

-- a stretch that stays
abbrev pub stays : ℕ → ℕ → Stretch
stays from to = record { from = from; to = to; from_step = 0; to_step = 0 }

-- a stretch that moves along from a list's start
abbrev pub moves_along : ℕ → ℕ → Stretch
moves_along to step = record { from = 0; to = to; from_step = 1; to_step = step }

-- row k: `for at in 0..=n2`, `for pb in 0..n2`, `for j in 0..=n2` but for the last cut of both. What a relocation leaves is the same for every place
unfoldable pub row_of : Kind → ℕ → ℕ → ℕ → Row
row_of Relocation n1 n2 k = record { own = stays k (k + 1); others = moves_along 0 1; count = n2 + 1; distinct = 1 }
row_of Swap n1 n2 k = record { own = stays k (k + 1); others = moves_along 1 1; count = n2; distinct = n2 }
row_of Tails n1 n2 k = record { own = stays k n1; others = moves_along n2 0; count = cuts n1 n2 k; distinct = cuts n1 n2 k }

-- how many rows: `for pos in 0..n1`, `for pa in 0..n1`, `for i in 0..=n1`
unfoldable pub rows_in : Kind → ℕ → ℕ
rows_in Relocation n = n
rows_in Swap n = n
rows_in Tails n = n + 1

-- how many entries a row has in the tables: as many as its moves, but for the last cuts of tails, which are one less
unfoldable pub width_of : Kind → ℕ → ℕ
width_of Relocation n2 = n2 + 1
width_of Swap n2 = n2
width_of Tails n2 = n2 + 1

-- a row seen from the second list, of which every move makes another one
abbrev pub turned_row : Row → Row
turned_row row = record { own = row.others; others = row.own; count = row.count; distinct = row.count }
