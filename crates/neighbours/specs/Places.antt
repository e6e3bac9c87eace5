-- A neighbour by its numbers, as the code goes through them one by one, and a list laid out in four pieces. For the inner contracts. Assumes nothing.
use Rattle.std.specs.Prelude.{ℕ, suc, ◌+◌, ◌-◌, ◌≤◌, ◌<◌, ◌≡◌, ◌⊎◌, true, false, List, [], ◌∷◌, ◌++◌, map, ltb, drop, Option, Some, None}
use Rattle.descent.specs.Order.{range, each}
use Rattle.descent.specs.Permitted.{seven}
use Rattle.descent.specs.Within.{Piece, pieces, Cut, Reconnection}
use Rattle.descent.proofs.Loops.{reversals_from}
use Rattle.neighbours.specs.Neighbours.{Neighbour, reversal, relocation, reconnection, ways, to_the_end, made}
use Rattle.layouts.specs.Layout.{nth_way, laid, CutIn}
use Rattle.layouts.specs.declared.Layout.{Layout}

-- a neighbour, by its numbers
pub data Place : Type 0 where
  -- the visits from the first to the last turned round
  Turned : ℕ → ℕ → Place
  -- so many visits, from which place on, and before the visit at which place of the original list they go
  Moved : ℕ → ℕ → ℕ → Place
  -- cut behind these three visits, and reconnected in one of the seven ways, 0 to 6
  Reconnected : ℕ → ℕ → ℕ → ℕ → Place

-- a place that was found, as a neighbourhood has its places
abbrev pub placed : {P : Type 0} → (P → Place) → Option P → Option Place
placed place None = None
placed place (Some at) = Some (place at)

-- the neighbour at a place
unfoldable pub meant : Place → Neighbour
meant (Turned first last) = reversal (record { first = first; last = last })
meant (Moved size from to) = relocation (record { size = size; from = from; to = to })
meant (Reconnected i j k way) = reconnection (record { cut = record { i = i; j = j; k = k }; way = nth_way way })

-- a place of a list of n
unfoldable pub Inside : ℕ → Place → Type 0
Inside n (Turned first last) = (first < last) × (last < n)
Inside n (Moved size from to) = (1 ≤ size) × (size ≤ 3) × (from + size ≤ n) × ((to < from) ⊎ (from + size < to)) × (to ≤ n)
Inside n (Reconnected i j k way) = (i < j) × (j < k) × (k < n) × (way < 7)

-- the same, if there is one
unfoldable pub InsideAny : ℕ → Option Place → Type 0
InsideAny n None = Unit
InsideAny n (Some place) = Inside n place

-- ---- the neighbours from a place on

-- where the piece may still go
abbrev pub tos_from : ℕ → ℕ → ℕ → ℕ → List ℕ
tos_from n size from to = elim (ltb to from) [
  | true ↦ range to from ++ range (suc (from + size)) (suc n)
  | false ↦ range to (suc n)
]

-- the row of a piece: all places where it may go
abbrev pub piece_row : ℕ → ℕ → ℕ → List Piece
piece_row n size from = map (λ to. record { size = size; from = from; to = to }) (range 0 from ++ range (suc (from + size)) (suc n))

-- the piece from this place on, the pieces that start behind it, and the greater sizes
abbrev pub pieces_from : ℕ → ℕ → ℕ → ℕ → List Piece
pieces_from n size from to =
    map (λ to. record { size = size; from = from; to = to }) (tos_from n size from to)
    ++ (each (range (suc from) (suc (n - size))) (piece_row n size) ++ each (range (suc size) 4) (pieces to_the_end n))

-- the cuts whose first two are behind i and j
abbrev pub thirds : ℕ → ℕ → ℕ → List Cut
thirds n i j = map (λ k. record { i = i; j = j; k = k }) (range (suc j) n)

-- the cuts whose first is behind i
abbrev pub seconds : ℕ → ℕ → List Cut
seconds n i = each (range (suc i) (n - 1)) (thirds n i)

-- the cuts whose first is behind i or a later visit
abbrev pub firsts_from : ℕ → ℕ → List Cut
firsts_from n i = each (range i (n - 2)) (seconds n)

-- the cuts from (i, j, k) on
abbrev pub cuts_from : ℕ → ℕ → ℕ → ℕ → List Cut
cuts_from n i j k = map (λ k. record { i = i; j = j; k = k }) (range k n) ++ (each (range (suc j) (n - 1)) (thirds n i) ++ firsts_from n (suc i))

-- the ways from this one on, and all ways of the cuts that follow
abbrev pub reconnections_from : ℕ → ℕ → ℕ → ℕ → ℕ → List Reconnection
reconnections_from n i j k way =
    map (λ way. record { cut = record { i = i; j = j; k = k }; way = way }) (drop way seven) ++ each (cuts_from n i j (suc k)) ways

-- the neighbour at a place, and all that follow it
unfoldable pub onward : ℕ → Place → List Neighbour
onward n (Turned first last) = map reversal (reversals_from n first last)
onward n (Moved size from to) = map relocation (pieces_from n size from to)
onward n (Reconnected i j k way) = map reconnection (reconnections_from n i j k way)

-- the same, if there is a place
unfoldable pub rest : ℕ → Option Place → List Neighbour
rest n None = []
rest n (Some place) = onward n place

-- r is the place after another: what is left from there on is its neighbour, and what is left from r on
pub record Follows (n : ℕ) (place : Place) (r : Option Place) : Type 0 where
  pub same : onward n place ≡ meant place ∷ rest n r
  pub inside : InsideAny n r

-- ---- a list laid out

-- laid out so, a list becomes the neighbour at a place
pub record Lays (n : ℕ) (place : Place) (p : Layout) : Type 0 where
  pub within : CutIn n p
  pub same : (list : List ℕ) → laid list p ≡ made list (meant place)
