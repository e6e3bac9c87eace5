-- `best_loaded`: the best so far and the cuts of the first list still ahead choose what all cuts do from nothing on; the exchanges are judged as at the
-- start.
use mathlib.Core.Path.{refl, sym, ◌∙◌}
use Prim.Native.Nat.{suc}
use native.Mathlib.Omega.{arith}
use lib.ListN.{length}
use Rattle.loads.proofs.Boxes.{load_more, sum_small}
use Rattle.descent.proofs.Loops.{scan_done}
use Rattle.tails.specs.Best.{best_by}
use Rattle.tails.proofs.Turns.{cut_turn}
use Rattle.tails.proofs.best_loaded.Goals as goal

pub loop-last-init : goal.loop-last-init
unfolding best_by
loop-last-init g c =
    (omega arith, refl, rw c.nothing-best.ensures refl, refl, refl, refl)

pub overflow_add-head1 : goal.overflow_add-head1
overflow_add-head1 g c =
    let two = c.args.two.now in
    let small = sum_small _ _ _ c.requires.loaded two.visits.one_below (omega (arith, two.visits.few)) _ _ _ c.loop-last-test.true c.loop-last.invariant.1
    c.boxes_at-head1.ensures in
    omega (arith, small.0, small.1)

pub best_row-best-requires-clause-head1 : goal.best_row-best-requires-clause-head1
best_row-best-requires-clause-head1 g c =
    load_more _ _ _ _ _ c.loop-last-test.true c.loop-last.invariant.1 c.boxes_at-head1.ensures

pub loop-last-preserved : goal.loop-last-preserved
loop-last-preserved g c =
    let kept = c.reach_one.ensures in
    let row = c.best_row-best.ensures in
    let delta = kept.delta ∙ c.loop-last.invariant.4 in
    let passes = kept.passes ∙ c.loop-last.invariant.5 in (
      omega (arith, c.loop-last-test.true),
      load_more _ _ _ _ _ c.loop-last-test.true c.loop-last.invariant.1 c.boxes_at-head1.ensures,
      cut_turn _ _ _ _ _ (omega (arith, c.loop-last-test.true)) (rw (delta, passes) at row.best) ∙ c.loop-last.invariant.2,
      row.two ∙ kept.two ∙ c.loop-last.invariant.3,
      row.delta ∙ delta,
      row.passes ∙ passes,
    )

pub returns : goal.returns
returns g c =
    sym (scan_done _ (suc c.loop-last.last) (suc (length c.args.two.now.one.now)) _ (omega (arith, c.loop-last-test.false))) ∙ c.loop-last.invariant.2
