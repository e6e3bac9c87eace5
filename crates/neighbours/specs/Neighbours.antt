-- The neighbours of a list where a day has a soft window (local_search/soft.rs): in three neighbourhoods, in the order of the Rust's loops. Assumes nothing.
use Rattle.std.specs.Prelude.{ℕ, List, map}
use Rattle.descent.specs.Order.{range, each}
use Rattle.descent.specs.Permitted.{seven}
use Rattle.descent.specs.Within.{Reversal, reversals, turned, Piece, pieces, put_before_lem, Cut, Reconnection, cuts, reconnect}

-- which neighbourhood a search moves in
pub data Neighbourhood : Type 0 where
  -- reverse a stretch of the list
  Reverse : Neighbourhood
  -- move a stretch of one to three visits elsewhere, in the same direction
  Relocate : Neighbourhood
  -- cut behind three visits and reconnect the pieces in every other way
  Reconnect : Neighbourhood

-- one move: a candidate of 2-opt, of Or-opt, or of 3-opt
pub data Neighbour : Type 0 where
  reversal : Reversal → Neighbour
  relocation : Piece → Neighbour
  reconnection : Reconnection → Neighbour

-- the seven ways to reconnect at a cut
abbrev pub ways : Cut → List Reconnection
ways cut = map (λ way. record { cut = cut; way = way }) seven

-- where a piece may go: up to the end of the list, 02, F-9: 'a piece may go to any position up to n, as the soft search already does'
abbrev pub to_the_end : ℕ → ℕ → ℕ
to_the_end n size = n

-- `for_each_neighbour`: the neighbours of a list of n, in the order of the Rust's loops. Its `at` counts in the list without the piece: it is `to` before
-- the piece, and `to` less the piece's size behind it.
unfoldable pub neighbours : Neighbourhood → ℕ → List Neighbour
neighbours Reverse n = map reversal (reversals n)
neighbours Relocate n = map relocation (each (range 1 4) (pieces to_the_end n))
neighbours Reconnect n = map reconnection (each (cuts n) ways)

-- what a move makes of a list
unfoldable pub made : List ℕ → Neighbour → List ℕ
made list (reversal r) = turned list r
made list (relocation p) = put_before_lem list p
made list (reconnection r) = reconnect list r
