-- `two_opt_delta`: the stops around the piece, its ends, what turning changes inside, and the sum of legs.
use Rattle.deltas.proofs.Stops.{around_placed, ends_placed}
use Rattle.deltas.specs.Deltas.{two_opt_delta}
use Rattle.deltas_within.proofs.two_opt_delta.Goals as goal

pub turn_change-requires : goal.turn_change-requires
turn_change-requires c = (
  rw c.around-stops.ensures
      (around_placed _ _ _ c.requires.listed.1 _ _),
  rw c.ends_of-piece.ensures
      (ends_placed _ _ _ c.requires.listed.1 _ _),
)

pub returns : goal.returns
unfolding two_opt_delta
returns c =
    rw (c.turn_change.ensures, c.reversal_delta-inside.ensures, c.ends_of-piece.ensures, c.around-stops.ensures)
