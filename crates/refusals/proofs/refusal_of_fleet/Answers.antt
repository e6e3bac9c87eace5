-- `refusal_of_fleet`: the day's refusals come first, then the fleet's, the lists' and the prices'; each return is one case of the definition.
use Rattle.std.proofs.Common.{sym, ap, ◌∙◌, length}
use Rattle.tests.specs.All.{first_none}
use Rattle.day.specs.Day.{Day}
use Rattle.day.specs.Customer.{num_depots}
use Rattle.day.specs.Number.{refused_first}
use Rattle.day_refusals.specs.Order.{day_fine}
use Rattle.fleet_refusals.specs.Order.{fleet_refusal}
use Rattle.list_refusals.specs.Refused.{table_refusal}
use Rattle.refusals.specs.Refusal.{refusal_of_fleet}
use Rattle.refusals.proofs.refusal_of_fleet.Goals as goal

pub returns-in_err-day_refusal : goal.returns-in_err-day_refusal
unfolding refusal_of_fleet
returns-in_err-day_refusal c =
    record { answer = refused_first _ _ _ _ c.from_residual.ensures.1 c.in_err-day_refusal.ensures }

pub returns-in_err-fleet_refusal : goal.returns-in_err-fleet_refusal
unfolding refusal_of_fleet
returns-in_err-fleet_refusal c =
    let of_day = c.in_err-fleet_refusal.ensures ∙ ap (λ (d : Day). fleet_refusal d.flags c.args.fleet.now (length c.args.lengths.now) c.args.ids.now c.args.prices.now) c.day.view_is in
    record { answer = first_none _ _ _ (sym c.in_ok-day_refusal.ensures) (refused_first _ _ _ _ c.from_residual-in_err-fleet_refusal.ensures.1 of_day) }

pub table_refusal-requires : goal.table_refusal-requires
table_refusal-requires c =
    rw (ap (λ (d : Day). d.l) c.day.view_is) (day_fine _ (sym c.in_ok-day_refusal.ensures)).shaped.few

pub returns-in_err-table_refusal : goal.returns-in_err-table_refusal
unfolding refusal_of_fleet
returns-in_err-table_refusal c =
    let of_fleet = c.in_ok-fleet_refusal.ensures ∙ ap (λ (d : Day). fleet_refusal d.flags c.args.fleet.now (length c.args.lengths.now) c.args.ids.now c.args.prices.now) c.day.view_is in
    let of_lists = c.in_err-table_refusal.ensures ∙ rw c.num_depots-depots.ensures (ap (λ (d : Day). table_refusal (num_depots d.flags) d.l c.args.visits.now c.args.lengths.now) c.day.view_is) in
    record {
      answer = first_none _ _ _ (sym c.in_ok-day_refusal.ensures)
          (first_none _ _ _ (sym of_fleet) (refused_first _ _ _ _ c.from_residual-in_err-table_refusal.ensures.1 of_lists));
    }

pub returns : goal.returns
unfolding refusal_of_fleet
returns c =
    let of_fleet = c.in_ok-fleet_refusal.ensures ∙ ap (λ (d : Day). fleet_refusal d.flags c.args.fleet.now (length c.args.lengths.now) c.args.ids.now c.args.prices.now) c.day.view_is in
    let of_lists = c.in_ok-table_refusal.ensures ∙ rw c.num_depots-depots.ensures (ap (λ (d : Day). table_refusal (num_depots d.flags) d.l c.args.visits.now c.args.lengths.now) c.day.view_is) in
    record {
      answer = first_none _ _ _ (sym c.in_ok-day_refusal.ensures) (first_none _ _ _ (sym of_fleet) (first_none _ _ _ (sym of_lists) c.prices_refusal.ensures));
    }
