-- `day_and_van_refusal`: the day's refusals come before the van's.
use Rattle.std.proofs.Common.{sym, ap, ◌∙◌}
use Rattle.tests.specs.All.{first_none}
use Rattle.day.specs.Day.{Day}
use Rattle.day.specs.Number.{refused_first}
use Rattle.van_refusals.specs.Order.{van_refusal}
use Rattle.refusals.specs.Refusal.{day_and_van_refusal}
use Rattle.refusals.proofs.day_and_van_refusal.Goals as goal

pub returns-in_err-day_refusal : goal.returns-in_err-day_refusal
unfolding day_and_van_refusal
returns-in_err-day_refusal c =
    record { answer = refused_first _ _ _ _ c.from_residual.ensures.1 c.in_err-day_refusal.ensures }

pub returns : goal.returns
unfolding day_and_van_refusal
returns c =
    record { answer = first_none _ _ _ (sym c.in_ok-day_refusal.ensures) (c.van_refusal.ensures ∙ ap (λ (d : Day). van_refusal d.flags c.args.van) c.day.view_is) }
