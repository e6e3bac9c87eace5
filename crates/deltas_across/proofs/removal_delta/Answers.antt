-- `removal_delta`: the stops around the visit, the legs, and the fixed cost where it is the only one.
use Rattle.deltas.proofs.Stops.{around_placed, stop_there}
use Rattle.deltas.specs.Deltas.{removal_delta}
use Rattle.deltas_across.proofs.removal_delta.Goals as goal

pub removal_cost-requires : goal.removal_cost-requires
removal_cost-requires c = (
  rw c.around-stops.ensures
      (around_placed _ _ _ c.requires.0 _ _),
  rw c.stop_at-visit.ensures
      (stop_there _ _ _ c.requires.0 _),
)

pub returns : goal.returns
unfolding removal_delta
returns c =
    rw (c.fixed_if.ensures, c.removal_cost.ensures, c.stop_at-visit.ensures, c.around-stops.ensures)
