-- `list_changes::drop_empty` meets its contract: proofs/Packing.antt has where the loop stands, its start, its turn and its end. Assumes nothing.
use native.Mathlib.Omega.{arith}
use Rattle.list_changes.proofs.Packing.{packing_starts, packing_turns, packing_ends}
use Rattle.list_changes.proofs.drop_empty.Goals as goal

pub loop-i-init : goal.loop-i-init
loop-i-init c =
    packing_starts _

pub overflow_add-kept : goal.overflow_add-kept
overflow_add-kept c =
    let turned = packing_turns _ _ _ _ _ c.loop-i.invariant c.loop-i-test.true c.one_if_filled-kept.ensures in
    omega (arith, turned.kept_below)

pub loop-i-preserved : goal.loop-i-preserved
loop-i-preserved c =
    rw c.swap.ensures.after (packing_turns _ _ _ _ _ c.loop-i.invariant c.loop-i-test.true c.one_if_filled-kept.ensures)

pub returns-clause-lengths : goal.returns-clause-lengths
returns-clause-lengths c =
    (packing_ends _ _ _ _ c.loop-i.invariant c.loop-i-test.false).1
