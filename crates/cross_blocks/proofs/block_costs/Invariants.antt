-- `block_costs`: before each row the costs of those before it are put down.
use mathlib.Core.Path.{◌≡◌}
use lib.ListN.{length}
use Rattle.cross_blocks.specs.Blocks.{CostedBlock}
use Rattle.labels.specs.Lent.{lent}
use Rattle.cross_blocks.proofs.block_costs.Given as goal

abbrev pub invariant-loop-i : goal.invariant-loop-i
invariant-loop-i l =
    (length l.costs ≡ 64) × CostedBlock (lent l.columns) l.side.van l.side.list.now l.other l.rows.kind l.turned l.rows.first l.rows.width l.i l.skip l.costs
