-- `broken_row`: before each candidate the costs of those before it are put down, and the head isn't beyond where its stretch begins.
use Prim.Native.Nat.{◌≤◌}
use lib.ListN.{length}
use Rattle.broken_heads.specs.Head.{HeadOf}
use Rattle.cross_rows.specs.Row.{from_at}
use Rattle.cross_rows.proofs.Rows.{Costing}
use Rattle.labels.specs.Lent.{lent}
use Rattle.cross_rows.proofs.broken_row.Given as goal

abbrev pub invariant-loop-j : goal.invariant-loop-j
invariant-loop-j l =
    let c = lent l.columns in
    (l.j ≤ l.count) × (l.driven ≤ from_at l.own l.j) × HeadOf c l.rest l.side.van.depot l.side.list.now l.driven l.head
    × Costing c l.side.van l.side.list.now l.own l.other l.others l.skip (length l.initial.costs) l.costs l.j
