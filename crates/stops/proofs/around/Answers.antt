-- `around`: the two stops read.
use Rattle.deltas.specs.Deltas.{around}
use Rattle.stops.proofs.around.Goals as goal

pub returns : goal.returns
unfolding around
returns c =
    rw (c.stop_at-to.ensures, c.stop_before-from.ensures)
