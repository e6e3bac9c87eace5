-- `refusal_of_lists`: the day's refusals come first, then the van's, then the lists'; each return is one case of the definition.
use Rattle.std.proofs.Common.{sym, ap, ◌∙◌}
use Rattle.tests.specs.All.{first_none}
use Rattle.day.specs.Day.{Day}
use Rattle.day.specs.Customer.{num_depots}
use Rattle.day.specs.Number.{refused_first}
use Rattle.day_refusals.specs.Order.{day_fine}
use Rattle.van_refusals.specs.Order.{van_refusal}
use Rattle.list_refusals.specs.Refused.{table_refusal}
use Rattle.refusals.specs.Refusal.{refusal_of_lists}
use Rattle.refusals.proofs.refusal_of_lists.Goals as goal

pub returns-in_err-day_refusal : goal.returns-in_err-day_refusal
unfolding refusal_of_lists
returns-in_err-day_refusal c =
    record { answer = refused_first _ _ _ _ c.from_residual.ensures.1 c.in_err-day_refusal.ensures }

pub returns-in_err-van_refusal : goal.returns-in_err-van_refusal
unfolding refusal_of_lists
returns-in_err-van_refusal c =
    let of_day = c.in_err-van_refusal.ensures ∙ ap (λ (d : Day). van_refusal d.flags c.args.van) c.day.view_is in
    record { answer = first_none _ _ _ (sym c.in_ok-day_refusal.ensures) (refused_first _ _ _ _ c.from_residual-in_err-van_refusal.ensures.1 of_day) }

pub table_refusal-requires : goal.table_refusal-requires
table_refusal-requires c =
    rw (ap (λ (d : Day). d.l) c.day.view_is) (day_fine _ (sym c.in_ok-day_refusal.ensures)).shaped.few

pub returns : goal.returns
unfolding refusal_of_lists
returns c =
    let of_van = c.in_ok-van_refusal.ensures ∙ ap (λ (d : Day). van_refusal d.flags c.args.van) c.day.view_is in
    let of_lists = c.table_refusal.ensures ∙ rw c.num_depots-depots.ensures (ap (λ (d : Day). table_refusal (num_depots d.flags) d.l c.args.visits.now c.args.lengths.now) c.day.view_is) in
    record { answer = first_none _ _ _ (sym c.in_ok-day_refusal.ensures) (first_none _ _ _ (sym of_van) of_lists) }
