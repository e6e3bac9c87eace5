-- `clocked_feasible`: one arm for each case of the break; the limits are asked of the clock's end.
use mathlib.Core.Path.{ap, ◌∙◌}
use Rattle.std.specs.Prelude.{None}
use Rattle.evaluation.specs.Route.{unbroken, outcome, allowed, feasible, feasible_by}
use Rattle.evaluation.proofs.clocked.clocked_feasible.Goals as goal

pub returns-in-None : goal.returns-in-None
unfolding outcome unbroken
returns-in-None c =
    c.is_allowed.ensures ∙ rw (c.home-driven.ensures, c.begin.ensures) (feasible_by _ _ _ _ None c.in-None.is)

pub returns-in-Some : goal.returns-in-Some
unfolding feasible
returns-in-Some c =
    c.is_allowed-in-Some.ensures ∙ ap (allowed _) c.outcome_of-outcome.ensures
