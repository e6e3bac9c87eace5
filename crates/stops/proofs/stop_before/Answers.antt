-- `stop_before`: before the first visit the depot, else the visit one place before.
use Rattle.deltas.specs.Deltas.{stop_before}
use Rattle.deltas.proofs.Stops.{before_visit}
use native.Mathlib.Omega.{arith}
use Rattle.stops.proofs.stop_before.Goals as goal

pub returns-then-k-eq0 : goal.returns-then-k-eq0
unfolding stop_before
returns-then-k-eq0 c =
    rw c.if-k-eq0.true

pub returns : goal.returns
returns c =
    rw (before_visit _ _ _ (omega arith) c.requires) c.visit_at.ensures
