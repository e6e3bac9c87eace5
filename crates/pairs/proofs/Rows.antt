-- The loops over the table: the first of the rest and the best so far is the first of all, turn by turn and row by row. Assumes nothing.
use mathlib.Core.Path.{◌≡◌, refl}
use mathlib.Core.List.{List, [], ◌∷◌, ◌++◌}
use Prim.Native.Nat.{ℕ, suc, ◌+◌, ◌≤◌, ◌<◌}
use native.Mathlib.Numerals.{add-one}
use lib.Ieee.{Float}
use Rattle.descent.proofs.Loops.{range_step, range_done}
use Rattle.pairs.specs.Pairs.{first_of, first_among, entry, row_from, rows_from}
use Rattle.pairs.specs.declared.Choice.{Choice}
use Rattle.pairs.specs.declared.PairTable.{PairTable}

pub among_append : (cs ds : List Choice) (best : Choice) → first_among (cs ++ ds) best ≡ first_among ds (first_among cs best)
unfolding first_among
among_append [] ds best = refl
among_append (c ∷ cs) ds best = among_append cs ds (first_of best c)

module _ (n : ℕ) (bound : Float) (t : PairTable) where
  pub row_turn : (from to : ℕ) (best : Choice) → to < n
      → first_among (row_from n bound t from to) best ≡ first_among (row_from n bound t from (to + 1)) (first_of best (entry bound t from to))
  unfolding first_among
  row_turn from to best h = rw (add-one to, range_step to n h)

  pub row_done : (from to : ℕ) (best : Choice) → n ≤ to → first_among (row_from n bound t from to) best ≡ best
  unfolding first_among
  row_done from to best h = rw (range_done to n h)

  pub rows_turn : (from : ℕ) (best : Choice) → from < n
      → first_among (rows_from n bound t from) best ≡ first_among (rows_from n bound t (from + 1)) (first_among (row_from n bound t from 0) best)
  rows_turn from best h = rw (add-one from, range_step from n h) (among_append (row_from n bound t from 0) (rows_from n bound t (suc from)) best)

  pub rows_done : (from : ℕ) (best : Choice) → n ≤ from → first_among (rows_from n bound t from) best ≡ best
  unfolding first_among
  rows_done from best h = rw (range_done from n h)
