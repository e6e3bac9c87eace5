-- `Reverse::first`: the rows from 0 on are all rows.
use Rattle.neighbours.specs.Neighbours.{neighbours}
use Rattle.neighbours.proofs.reverse.ReverseNeighbourhood.first.Goals as goal

pub returns : goal.returns
unfolding neighbours
returns c =
    c.first_reversal.ensures
