-- `route_distance`: an input that is not refused has its list in the table and its tables in shape.
use Rattle.std.specs.Prelude.{Ok}
use Rattle.std.proofs.Common.{refl, sym, ap, ◌∙◌}
use Rattle.day.specs.Day.{Day}
use Rattle.lists.specs.Table.{list_of}
use Rattle.evaluation.specs.Distance.{route_distance}
use Rattle.refusals.specs.Answered.{handed_on, answered}
use Rattle.refusals.proofs.NotRefused.{listed, drivable}
use Rattle.checks.specs.Answer.{distance_answer}
use Rattle.checks.proofs.check.route_distance.Goals as goal

pub returns-in_err-refusal_of : goal.returns-in_err-refusal_of
unfolding distance_answer
returns-in_err-refusal_of c =
    record { answer = handed_on _ _ _ _ c.from_residual.ensures.1 c.in_err-refusal_of.ensures.answer }

pub list_of-requires : goal.list_of-requires
list_of-requires c =
    listed _ _ _ _ _ (sym c.in_ok-refusal_of.ensures.answer)

pub invariant_of-distances : goal.invariant_of-distances
invariant_of-distances c = record {
  square = rw (ap (λ (d : Day). d.l) c.day.view_is, ap (λ (d : Day). d.distances) c.day.view_is)
      (drivable _ _ _ _ _ (sym c.in_ok-refusal_of.ensures.answer) _ refl).0;
}

pub route_distance-distance-requires : goal.route_distance-distance-requires
route_distance-distance-requires c =
    let there = drivable _ _ _ _ _ (sym c.in_ok-refusal_of.ensures.answer) _ c.list_of.ensures in
    rw (ap (λ (d : Day). d.l) c.day.view_is) (there.1, there.2)

pub returns : goal.returns
unfolding distance_answer
returns c =
    let of_day = ap (λ (d : Day). route_distance d.l d.distances c.args.van.depot (list_of c.args.visits.now c.args.lengths.now c.args.list)) c.day.view_is in
    record {
      answer = answered _ _ 0 _ _ refl c.in_ok-refusal_of.ensures.answer (ap Ok (rw c.list_of.ensures at c.route_distance-distance.ensures ∙ of_day));
    }
