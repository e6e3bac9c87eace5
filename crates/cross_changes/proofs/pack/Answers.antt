-- `pack`: proofs/Dropping.antt has where the loop stands, its start, its turn and its end.
use native.Mathlib.Omega.{arith}
use lib.Seq.{lt-length-set}
use Rattle.cross_changes.proofs.Dropping.{packing_starts, packing_turns, packing_ends}
use Rattle.cross_changes.proofs.pack.Goals as goal

pub loop-i-init : goal.loop-i-init
loop-i-init g c =
    packing_starts _ _ _

pub bounds-entries-kept : goal.bounds-entries-kept
bounds-entries-kept g c =
    lt-length-set c.loop-i.entries _ _ (omega (
      arith,
      c.loop-i.invariant.kept_below,
      c.loop-i.invariant.same_length,
      c.loop-i-test.true,
      c.requires.0,
    ))

pub overflow_add-kept : goal.overflow_add-kept
overflow_add-kept g c =
    let turned = packing_turns c.args.none _ _ _ _ _ _ _ _ c.loop-i.invariant c.requires.0 c.loop-i-test.true
    (rw c.index-entries-i.is at c.kept_if.ensures) c.one_if_filled-kept.ensures in
    omega (arith, turned.kept_below, c.loop-i-test.true, c.requires.1)

pub loop-i-preserved : goal.loop-i-preserved
loop-i-preserved g c =
    packing_turns c.args.none _ _ _ _ _ _ _ _ c.loop-i.invariant c.requires.0 c.loop-i-test.true
    (rw c.index-entries-i.is at c.kept_if.ensures) c.one_if_filled-kept.ensures

pub returns : goal.returns
returns g c =
    packing_ends _ _ _ _ _ _ c.loop-i.invariant c.requires.0 c.loop-i-test.false
