-- `best_row`: the best so far and the cuts still ahead choose what the best at the start and all cuts do; the second head's load is kept running, and the
-- exchanges are judged as at the start.
use mathlib.Core.Path.{refl, sym, ◌∙◌}
use Prim.Native.Nat.{suc, ◌+◌}
use native.Mathlib.Omega.{arith}
use lib.ListN.{length}
use Rattle.loads.specs.Loads.{boxes_of}
use Rattle.loads.proofs.Boxes.{load_more, load_joined}
use Rattle.descent.proofs.Loops.{scan_done}
use Rattle.tails.specs.Best.{row_by}
use Rattle.tails.proofs.Turns.{cut_turn, Bounded, bounded}
use Rattle.tails.proofs.best_row.Goals as goal

pub loop-last-init : goal.loop-last-init
unfolding row_by
loop-last-init g c =
    (omega arith, refl, refl, refl, refl, refl)

-- what both new loads are made of
parts : (g : _) (c : goal.After-boxes_at-head2 g) → Bounded c.args.head1 (c.loop-last.head2 + c.boxes_at-head2.result) c.args.load1 c.args.load2
parts g c =
    let two = c.args.two.now in
    bounded _ _ _ _ c.requires.loaded two.visits c.args.cut1 _ _ _ _ _ _ c.requires.head1 c.requires.load1 c.requires.load2 c.loop-last-test.true
    c.loop-last.invariant.1 c.boxes_at-head2.ensures

pub overflow_add-head2 : goal.overflow_add-head2
overflow_add-head2 g c =
    let p = parts g c in
    omega (arith, p.second, p.small2)

pub overflow_sub-new1 : goal.overflow_sub-new1
overflow_sub-new1 g c =
    (parts g c).second

pub overflow_add-new1 : goal.overflow_add-new1
overflow_add-new1 g c =
    let p = parts g c in
    omega (arith, p.first, p.small1, p.small2)

pub overflow_sub-new2 : goal.overflow_sub-new2
overflow_sub-new2 g c =
    (parts g c).first

pub overflow_add-new2 : goal.overflow_add-new2
overflow_add-new2 g c =
    let p = parts g c in
    omega (arith, p.second, p.small1, p.small2)

pub consider-found-requires-clause-load1 : goal.consider-found-requires-clause-load1
consider-found-requires-clause-load1 g c =
    let boxes = boxes_of c.args.two.now.demand.now in
    let head2 = load_more _ _ _ _ _ c.loop-last-test.true c.loop-last.invariant.1 c.boxes_at-head2.ensures in
    load_joined boxes c.args.two.now.one.now c.args.two.now.other.now c.args.cut1 (c.loop-last.last + 1) _ _ _ c.requires.head1 head2 c.requires.load2

pub consider-found-requires-clause-load2 : goal.consider-found-requires-clause-load2
consider-found-requires-clause-load2 g c =
    let boxes = boxes_of c.args.two.now.demand.now in
    let head2 = load_more _ _ _ _ _ c.loop-last-test.true c.loop-last.invariant.1 c.boxes_at-head2.ensures in
    load_joined boxes c.args.two.now.other.now c.args.two.now.one.now (c.loop-last.last + 1) c.args.cut1 _ _ _ head2 c.requires.head1 c.requires.load1

pub loop-last-preserved : goal.loop-last-preserved
loop-last-preserved g c =
    let kept = c.reach_other.ensures in
    let delta = kept.delta ∙ c.loop-last.invariant.4 in
    let passes = kept.passes ∙ c.loop-last.invariant.5 in (
      omega (arith, c.loop-last-test.true),
      load_more _ _ _ _ _ c.loop-last-test.true c.loop-last.invariant.1 c.boxes_at-head2.ensures,
      cut_turn _ _ _ _ _ (omega (arith, c.loop-last-test.true)) (rw (delta, passes) at c.consider-found.ensures) ∙ c.loop-last.invariant.2,
      kept.two ∙ c.loop-last.invariant.3,
      delta,
      passes,
    )

pub returns-clause-best : goal.returns-clause-best
returns-clause-best g c =
    sym (scan_done _ (suc c.loop-last.last) (suc (length c.args.two.now.other.now)) _ (omega (arith, c.loop-last-test.false))) ∙ c.loop-last.invariant.2
