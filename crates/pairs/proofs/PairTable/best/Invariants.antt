-- `best`: before each row the first of the best so far and the rows from here on is the first of all.
use mathlib.Core.Path.{◌≡◌}
use Rattle.pairs.specs.Pairs.{first_among, rows_from}
use Rattle.pairs.proofs.PairTable.best.Given as goal

abbrev pub invariant-loop-from : goal.invariant-loop-from
invariant-loop-from l =
    first_among (rows_from l.n l.bound l.self l.from) l.best ≡ first_among (rows_from l.n l.bound l.self 0) l.initial.best
