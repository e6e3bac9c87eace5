-- `shared_visits`: one arm for each case of the break.
use Rattle.heads.specs.Head.{shared}
use Rattle.heads.proofs.shared_visits.Goals as goal

pub returns-in-None : goal.returns-in-None
unfolding shared
returns-in-None c =
    rw c.in-None.is

pub returns-in-Some : goal.returns-in-Some
unfolding shared
returns-in-Some c =
    rw c.in-Some.is
