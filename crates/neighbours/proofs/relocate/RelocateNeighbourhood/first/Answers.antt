-- `Relocate::first`: the sizes from 1 on are all sizes.
use Rattle.neighbours.specs.Neighbours.{neighbours}
use Rattle.neighbours.proofs.relocate.RelocateNeighbourhood.first.Goals as goal

pub returns : goal.returns
unfolding neighbours
returns c =
    c.first_relocation.ensures
