-- `mark_block`: before each row the marks of those before it are put down.
use mathlib.Core.Path.{◌≡◌}
use lib.ListN.{length}
use Rattle.cross_blocks.specs.Blocks.{MarkedBlock}
use Rattle.cross_blocks.proofs.mark_block.Given as goal

abbrev pub invariant-loop-i : goal.invariant-loop-i
invariant-loop-i l =
    (length l.marks ≡ 64) × MarkedBlock l.demand l.one.van l.other.van l.one.list.now l.other.list.now l.rows.kind l.rows.first l.rows.width l.i l.marks
