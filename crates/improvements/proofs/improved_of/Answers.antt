-- `improved_of`: one arm for each end.
use Rattle.improvements.specs.Improve.{improved_of}
use Rattle.improvements.proofs.improved_of.Goals as goal

pub returns-in-Settled : goal.returns-in-Settled
unfolding improved_of
returns-in-Settled c =
    rw c.in-Settled.is

pub returns-in-Stopped : goal.returns-in-Stopped
unfolding improved_of
returns-in-Stopped c =
    rw c.in-Stopped.is
