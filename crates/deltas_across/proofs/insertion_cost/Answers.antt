-- `insertion_cost`: the leg at the place, and the detour by way of the visit.
use Rattle.deltas.proofs.Stops.{around_placed}
use Rattle.deltas.specs.Deltas.{insertion_cost}
use Rattle.deltas_across.proofs.insertion_cost.Goals as goal

pub detour-requires : goal.detour-requires
detour-requires c = (
  rw c.around-stops.ensures
      (around_placed _ _ _ c.requires.0 _ _),
  record
      { from_there = c.requires.1; to_there = c.requires.1 },
)

pub returns : goal.returns
unfolding insertion_cost
returns c =
    rw (c.detour.ensures, c.around-stops.ensures)
