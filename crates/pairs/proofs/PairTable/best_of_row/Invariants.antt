-- `best_of_row`: before each turn the first of the best so far and the rest of the row is the first of all.
use mathlib.Core.Path.{◌≡◌}
use Rattle.pairs.specs.Pairs.{first_among, row_from}
use Rattle.pairs.proofs.PairTable.best_of_row.Given as goal

abbrev pub invariant-loop-to : goal.invariant-loop-to
invariant-loop-to l =
    first_among (row_from l.n l.bound l.self l.from l.to) l.first ≡ first_among (row_from l.n l.bound l.self l.from 0) l.initial.first
