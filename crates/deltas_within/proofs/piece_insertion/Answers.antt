-- `piece_insertion`: the leg at the position, the ends of the piece, and the detour.
use Rattle.deltas.proofs.Stops.{around_placed, ends_placed}
use Rattle.deltas.specs.Deltas.{piece_insertion}
use Rattle.deltas_within.proofs.piece_insertion.Goals as goal

pub detour-requires : goal.detour-requires
detour-requires c = (
  rw c.around-stops.ensures
      (around_placed _ _ _ c.requires.listed _ _),
  rw c.ends_of-piece.ensures
      (ends_placed _ _ _ c.requires.listed _ _),
)

pub returns : goal.returns
unfolding piece_insertion
returns c =
    rw (c.detour.ensures, c.ends_of-piece.ensures, c.around-stops.ensures)
