-- `removal_cost`: the three legs read, in the order of the definition.
use Rattle.deltas.specs.Changes.{removal_cost}
use Rattle.deltas_across.proofs.removal_cost.Goals as goal

pub returns : goal.returns
unfolding removal_cost
returns c =
    rw (c.get-3.ensures, c.get-2.ensures, c.get.ensures)
