-- `unbroken_row`: before each candidate the costs of those before it are put down.
use Prim.Native.Nat.{◌≤◌}
use lib.ListN.{length}
use Rattle.cross_rows.proofs.Rows.{Costing}
use Rattle.labels.specs.Lent.{lent}
use Rattle.cross_rows.proofs.unbroken_row.Given as goal

abbrev pub invariant-loop-j : goal.invariant-loop-j
invariant-loop-j l =
    (l.j ≤ l.count) × Costing (lent l.columns) l.side.van l.side.list.now l.own l.other l.others l.skip (length l.initial.costs) l.costs l.j
