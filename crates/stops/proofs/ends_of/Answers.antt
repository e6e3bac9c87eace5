-- `ends_of`: the two stops read.
use Rattle.deltas.specs.Deltas.{ends_of}
use Rattle.stops.proofs.ends_of.Goals as goal

pub returns : goal.returns
unfolding ends_of
returns c =
    rw (c.stop_before-to.ensures, c.stop_at-from.ensures)
