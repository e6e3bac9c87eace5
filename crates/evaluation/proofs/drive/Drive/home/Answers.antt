-- `home`: what is driven and the rest of the list make the whole walk. A visit that is missed leaves the rest missed.
use borrow.Author.Rules.{rules}
use mathlib.Core.Path.{refl, ap, ◌∙◌}
use Rattle.evaluation.specs.Route.{home, tick_is, unbroken_turns, unbroken_stops, unbroken_ends}
use Rattle.evaluation.proofs.drive.Drive.home.Goals as goal

pub loop-visit-init : goal.loop-visit-init
loop-visit-init c =
    (search rules, c.requires.1, refl)

pub returns-in_default : goal.returns-in_default
returns-in_default c =
    unbroken_stops _ _ _ _ _ _ _ c.loop-visit-test.true
    (tick_is _ _ _ _ _ _ _ _ (rw c.from-visit.ensures at c.travel_time-travel.ensures) (rw c.from-visit.ensures at c.stop-stop.ensures) c.serve-reached.ensures c.in_default.is)
    ∙ ap (home _ c.args.depot) c.loop-visit.invariant.2

pub loop-visit-preserved : goal.loop-visit-preserved
loop-visit-preserved c = (
  search rules,
  rw c.from-visit.ensures (c.requires.2.below c.loop-visit.visit-index c.loop-visit-test.true),
  rw c.from-visit.ensures (unbroken_turns _ _ _ _ _ _ _ _ c.loop-visit-test.true (rw c.from-visit.ensures at c.distance-distance.ensures)
      (tick_is _ _ _ _ _ _ _ _ (rw c.from-visit.ensures at c.travel_time-travel.ensures) (rw c.from-visit.ensures at c.stop-stop.ensures) c.serve-reached.ensures c.in-Some.is)
      ∙ c.loop-visit.invariant.2),
)

pub returns : goal.returns
returns c =
    c.end_with.ensures
    ∙ unbroken_ends _ _ _ _ _ _ _ _ _ c.loop-visit-test.false c.distance-distance-2.ensures c.travel_time-back.ensures
    ∙ ap (home _ c.args.depot) c.loop-visit.invariant.2
