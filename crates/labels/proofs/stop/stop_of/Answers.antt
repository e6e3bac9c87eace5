-- `stop_of`: field by field; the window is what `time_window` ensures.
use Rattle.labels.specs.Columns.{stop_of}
use Rattle.labels.proofs.stop.stop_of.Goals as goal

pub returns : goal.returns
unfolding stop_of
returns c =
    rw c.time_window.ensures
