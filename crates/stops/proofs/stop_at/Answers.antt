-- `stop_at`: inside the list the visit, behind it the depot.
use Rattle.deltas.proofs.Stops.{stop_visit, stop_depot}
use Rattle.stops.proofs.stop_at.Goals as goal

pub returns-then-k-list : goal.returns-then-k-list
returns-then-k-list c =
    rw (stop_visit _ _ _ c.if-k-list.true) c.visit_at.ensures

pub returns : goal.returns
returns c =
    rw (stop_depot _ _ _ c.if-k-list.false)
