-- `fill`: before each visit the table holds the loads up to it, and no running sum can wrap.
use native.Mathlib.Omega.{arith}
use Rattle.loads.proofs.Boxes.{sum_small}
use Rattle.cross_moves.proofs.Fitting.{filling_starts, filling_turns, filling_ends}
use Rattle.cross_moves.proofs.side.PrefixLoads.fill.Goals as goal

pub loop-k-init : goal.loop-k-init
loop-k-init c =
    filling_starts _ _ c.args.self.now.sums (omega arith)

pub boxes_at-load-requires : goal.boxes_at-load-requires
boxes_at-load-requires c =
    (c.requires.0, c.loop-k-test.true, c.requires.1.below _ c.loop-k-test.true)

pub overflow_add-load : goal.overflow_add-load
overflow_add-load c =
    let small = sum_small _ _ _ c.requires.0 c.requires.1.below c.requires.1.few _ _ _ c.loop-k-test.true
    c.loop-k.invariant.is_load c.boxes_at-load.ensures in
    omega (arith, small.0, small.1)

pub loop-k-preserved : goal.loop-k-preserved
loop-k-preserved c =
    filling_turns _ _ _ _ _ _ c.loop-k.invariant c.loop-k-test.true c.requires.1.few c.boxes_at-load.ensures

pub returns : goal.returns
returns c =
    filling_ends _ _ _ _ _ c.loop-k.invariant c.loop-k-test.false c.requires.1.few
