-- `rearranged_of`: one arm for each end.
use Rattle.rearrangements.specs.Rearrange.{rearranged_of}
use Rattle.rearrangements.proofs.rearranged_of.Goals as goal

pub returns-in-Settled : goal.returns-in-Settled
unfolding rearranged_of
returns-in-Settled c =
    rw c.in-Settled.is

pub returns-in-Stopped : goal.returns-in-Stopped
unfolding rearranged_of
returns-in-Stopped c =
    rw c.in-Stopped.is
