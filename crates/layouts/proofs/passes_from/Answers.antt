-- `passes_from`: what is driven and the rest of the list laid out make the whole walk from the head. A visit that is missed leaves the rest missed.
use mathlib.Core.Path.{ap, ◌∙◌}
use Rattle.evaluation.specs.Route.{tick_is, home, unbroken_ends}
use Rattle.layouts.specs.Layout.{laid, passes_from}
use Rattle.layouts.proofs.Layouts.{laid-below, laid_long, laid_short}
use Rattle.layouts.proofs.Onward.{turns, misses, end_passes}
use Rattle.layouts.proofs.passes_from.Goals as goal

pub distance-distance-requires : goal.distance-distance-requires
distance-distance-requires c = (
  c.loop-i.invariant.0,
  rw c.visit_laid-visit.ensures (laid-below _ c.requires.depot_lt_l.1 c.requires.cut_in.0
      c.loop-i-test.true),
)

pub travel_time-travel-requires : goal.travel_time-travel-requires
travel_time-travel-requires c = (
  c.loop-i.invariant.0,
  rw c.visit_laid-visit.ensures (laid-below _ c.requires.depot_lt_l.1 c.requires.cut_in.0
      c.loop-i-test.true),
)

pub stop-stop-requires : goal.stop-stop-requires
stop-stop-requires c =
    rw c.visit_laid-visit.ensures (laid-below _ c.requires.depot_lt_l.1 c.requires.cut_in.0
    c.loop-i-test.true)

pub returns-in_default : goal.returns-in_default
unfolding passes_from
returns-in_default c =
    misses _ (laid c.args.list.now c.args.p) _ _ c.loop-i.distance _ _ c.visit_laid-visit.ensures
    (laid_long c.args.list.now c.requires.cut_in.0 c.loop-i-test.true) c.args.limits c.args.depot
    (tick_is _ _ _ _ _ _ _ _ c.travel_time-travel.ensures c.stop-stop.ensures c.serve-reached.ensures
    c.in_default.is) c.loop-i.invariant.1

pub loop-i-preserved : goal.loop-i-preserved
loop-i-preserved c = (
  rw c.visit_laid-visit.ensures (laid-below _ c.requires.depot_lt_l.1 c.requires.cut_in.0 c.loop-i-test.true),
  turns _ _ _ _ _ _ _ c.visit_laid-visit.ensures (laid_long _ c.requires.cut_in.0 c.loop-i-test.true) _ _ c.distance-distance.ensures
      (tick_is _ _ _ _ _ _ _ _ c.travel_time-travel.ensures c.stop-stop.ensures c.serve-reached.ensures
      c.in-Some.is)
      ∙ c.loop-i.invariant.1,
)

pub returns : goal.returns
unfolding passes_from
returns c =
    c.allow.ensures
    ∙ end_passes _ _ _ _ _
    (unbroken_ends _ _ _ _ _ _ _ _ _ (laid_short _ c.requires.cut_in.0 c.loop-i-test.false) c.distance-distance-2.ensures
    c.travel_time-back.ensures
    ∙ ap (home _ c.args.depot) c.loop-i.invariant.1)
