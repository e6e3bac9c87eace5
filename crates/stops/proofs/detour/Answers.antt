-- `detour`: the three legs read, in the order of the definition.
use Rattle.deltas.specs.Changes.{detour}
use Rattle.stops.proofs.detour.Goals as goal

pub returns : goal.returns
unfolding detour
returns c =
    rw (c.get-3.ensures, c.get-2.ensures, c.get.ensures)
