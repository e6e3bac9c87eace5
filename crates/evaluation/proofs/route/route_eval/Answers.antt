-- `route_eval`: one arm for each case of the break; the clock's end is evaluated.
use mathlib.Core.Path.{ap, ◌∙◌}
use Rattle.std.specs.Prelude.{None}
use Rattle.evaluation.specs.Route.{unbroken, outcome, evaluated, eval, eval_by}
use Rattle.evaluation.proofs.route.route_eval.Goals as goal

pub returns-in-None : goal.returns-in-None
unfolding outcome unbroken
returns-in-None c =
    c.evaluate.ensures ∙ rw (c.home-driven.ensures, c.begin.ensures) (eval_by _ _ _ _ None c.in-None.is)

pub returns-in-Some : goal.returns-in-Some
unfolding eval
returns-in-Some c =
    c.evaluate-in-Some.ensures ∙ ap (evaluated _) c.outcome_of-outcome.ensures
