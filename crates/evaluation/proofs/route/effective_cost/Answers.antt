-- `effective_cost`: the clock of the list, evaluated, and its price.
use mathlib.Core.Path.{ap, ◌∙◌}
use Rattle.evaluation.specs.Route.{eval, evaluated, cost_of, effective_cost}
use Rattle.evaluation.proofs.route.effective_cost.Goals as goal

pub returns : goal.returns
unfolding effective_cost eval
returns c =
    c.price.ensures ∙ ap (λ o. cost_of (evaluated c.args.limits o)) c.outcome_of-outcome.ensures
