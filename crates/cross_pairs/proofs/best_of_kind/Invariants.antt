-- `best_of_kind`: before each block, the scan from here on comes to all rows of the kind.
use mathlib.Core.Path.{◌≡◌}
use Prim.Native.Nat.{◌-◌}
use lib.ListN.{length}
use Rattle.descent.specs.Order.{range, scan}
use Rattle.cross_kinds.specs.Kinds.{rows_in}
use Rattle.cross_choices.specs.Rows.{best_of_row, best_of_kind}
use Rattle.labels.specs.Lent.{lent}
use Rattle.cross_pairs.proofs.best_of_kind.Given as goal

abbrev pub invariant-loop-k : goal.invariant-loop-k
invariant-loop-k l =
    scan (best_of_row (lent l.columns) l.demand l.pair l.one.list.now l.other.list.now l.kind) (range l.k (rows_in l.kind (length l.one.list.now))) l.found
    ≡ best_of_kind (lent l.columns) l.demand l.pair l.one.list.now l.other.list.now l.kind l.initial.found

abbrev pub decreases-loop-k : goal.decreases-loop-k
decreases-loop-k l =
    l.all - l.k
