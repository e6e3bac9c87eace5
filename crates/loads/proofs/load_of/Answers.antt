-- `load_of`: so far the load is that of the visits passed.
use mathlib.Core.Path.{ap, ◌∙◌}
use native.Mathlib.Omega.{arith}
use lib.Seq.{take_all}
use Rattle.edits.specs.Total.{total}
use Rattle.loads.specs.Loads.{boxes_of}
use Rattle.loads.proofs.Boxes.{load_small, load_more, sum_small}
use Rattle.loads.proofs.load_of.Goals as goal

pub boxes_of-load-requires-clause-visit_in_bounds : goal.boxes_of-load-requires-clause-visit_in_bounds
boxes_of-load-requires-clause-visit_in_bounds c =
    omega (arith, c.requires.0.column, c.requires.1.below _ c.loop-visit-test.true)

pub boxes_of-load-requires-clause-pos_value : goal.boxes_of-load-requires-clause-pos_value
boxes_of-load-requires-clause-pos_value c =
    rw c.from.ensures (c.requires.0.in_range _ (c.requires.1.below _ c.loop-visit-test.true))

pub overflow_add-load : goal.overflow_add-load
overflow_add-load c =
    let small = sum_small _ _ _ c.requires.0 c.requires.1.below c.requires.1.few _ _ _ c.loop-visit-test.true c.loop-visit.invariant
    (rw c.from.ensures at c.boxes_of-load.ensures.0) in
    omega (arith, small.0, small.1)

pub loop-visit-preserved : goal.loop-visit-preserved
loop-visit-preserved c =
    load_more _ _ _ _ _ c.loop-visit-test.true c.loop-visit.invariant (rw c.from.ensures at c.boxes_of-load.ensures.0)

pub returns : goal.returns
returns c =
    let whole = c.loop-visit.invariant ∙ ap (total (boxes_of c.args.demand.now)) (take_all _ c.args.list.now c.loop-visit-test.false) in
    (whole, rw whole (load_small _ _ c.args.list.now c.requires.0 c.requires.1.below c.requires.1.few))
