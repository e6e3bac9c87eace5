-- `outcome_of`: one arm for each case of the break.
use Rattle.evaluation.specs.Route.{outcome, unbroken}
use Rattle.evaluation.proofs.route.outcome_of.Goals as goal

pub returns-in-None : goal.returns-in-None
unfolding outcome unbroken
returns-in-None c =
    rw c.in-None.is (rw c.begin.ensures at c.home.ensures)

pub returns-in-Some : goal.returns-in-Some
unfolding outcome
returns-in-Some c =
    rw c.in-Some.is c.schedule.ensures
