-- `improve_list`: a refusal changes nothing; otherwise the list asked for lies in the table, and the run is on its part.
use Rattle.std.proofs.Common.{refl, sym, arith}
use Rattle.day.specs.Number.{number_some}
use Rattle.lists.proofs.Tables.{list_within, part_is}
use Rattle.refusals.specs.Answered.{refused_by, handed_on}
use Rattle.refusals.proofs.NotRefused.{listed, shaped_day}
use Rattle.improvements.specs.Improve.{improve_answer, improve_visits}
use Rattle.improvements.proofs.Improving.{improved_call, improvable}
use Rattle.improvements.proofs.improve_list.Goals as goal

pub returns-in_err-refusal_of : goal.returns-in_err-refusal_of
unfolding improve_answer improve_visits
returns-in_err-refusal_of g c =
    (handed_on _ _ _ _ c.from_residual.ensures.1 c.in_err-refusal_of.ensures.answer, refused_by (λ m. c.args.visits.now) _ _ _ (number_some _) c.in_err-refusal_of.ensures.answer)

pub start_of-start-requires : goal.start_of-start-requires
start_of-start-requires g c =
    omega (arith, (listed _ _ _ _ _ (sym c.in_ok-refusal_of.ensures.answer)).0.few, (listed _ _ _ _ _ (sym c.in_ok-refusal_of.ensures.answer)).1)

pub end_of-end-requires : goal.end_of-end-requires
end_of-end-requires g c =
    omega (arith, (listed _ _ _ _ _ (sym c.in_ok-refusal_of.ensures.answer)).0.few, (listed _ _ _ _ _ (sym c.in_ok-refusal_of.ensures.answer)).1)

pub of-columns-requires : goal.of-columns-requires
of-columns-requires g c =
    record { shaped = shaped_day _ _ _ _ _ (sym c.in_ok-refusal_of.ensures.answer) }

pub offset_bounds-visits-start : goal.offset_bounds-visits-start
offset_bounds-visits-start g c =
    omega (arith, list_within _ _ (listed _ _ _ _ _ (sym c.in_ok-refusal_of.ensures.answer)).0 c.args.list, c.end_of-end.ensures)

pub slice_bounds-improve_part-end : goal.slice_bounds-improve_part-end
slice_bounds-improve_part-end g c =
    omega (arith, list_within _ _ (listed _ _ _ _ _ (sym c.in_ok-refusal_of.ensures.answer)).0 c.args.list, c.end_of-end.ensures)

pub improve_part-improved-requires-clause-depot_lt_l : goal.improve_part-improved-requires-clause-depot_lt_l
improve_part-improved-requires-clause-depot_lt_l g c =
    (improvable g.N.Neighbourhood.which _ _ _ _ _ c.args.limit c.in_ok-refusal_of.ensures.answer _ c.of-columns.ensures _
    (part_is _ _ _ _ _ c.start_of-start.ensures c.end_of-end.ensures)).0

pub improve_part-improved-requires-clause-distances_value : goal.improve_part-improved-requires-clause-distances_value
improve_part-improved-requires-clause-distances_value g c =
    (improvable g.N.Neighbourhood.which _ _ _ _ _ c.args.limit c.in_ok-refusal_of.ensures.answer _ c.of-columns.ensures _
    (part_is _ _ _ _ _ c.start_of-start.ensures c.end_of-end.ensures)).1

pub returns : goal.returns
returns g c =
    improved_call _ _ _ _ _ _ _ c.in_ok-refusal_of.ensures.answer _ c.of-columns.ensures _ _
    c.start_of-start.ensures c.end_of-end.ensures _ _ _ refl
    c.improve_part-improved.ensures.0 c.improve_part-improved.ensures.1
