-- Where a piece may go within its list, in the order of search. For src/. Assumes nothing.
use Rattle.std.specs.Prelude.{List, ◌++◌, ℕ, suc, ◌+◌}
use Rattle.descent.specs.Order.{range}
use Rattle.descent.specs.Within.{Piece}
use Rattle.segments.specs.Segments.{last_position, to_each}

-- the positions that a piece may take: before its start, or behind its end up to the last
abbrev pub row : ℕ → ℕ → ℕ → List Piece
row n size from = to_each size from (range 0 from ++ range (suc (from + size)) (suc (last_position n size)))
