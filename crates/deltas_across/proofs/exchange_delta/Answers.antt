-- `exchange_delta`: the leg cut in each list, then the sum of legs.
use Rattle.deltas.proofs.Stops.{around_placed}
use Rattle.deltas.specs.Deltas.{exchange_delta}
use Rattle.deltas_across.proofs.exchange_delta.Goals as goal

pub tails_change-requires : goal.tails_change-requires
tails_change-requires c = (
  rw c.around-edge1.ensures
      (around_placed _ _ _ c.requires.listed.0 _ _),
  rw c.around-edge2.ensures
      (around_placed _ _ _ c.requires.listed.1 _ _),
)

pub returns : goal.returns
unfolding exchange_delta
returns c =
    rw (c.tails_change.ensures, c.around-edge2.ensures, c.around-edge1.ensures)
