-- `insertion_delta`: the insertion and, where the list is empty, the fixed cost.
use Rattle.deltas.specs.Deltas.{insertion_delta}
use Rattle.deltas_across.proofs.insertion_delta.Goals as goal

pub returns : goal.returns
unfolding insertion_delta
returns c =
    rw (c.fixed_if.ensures, c.insertion_cost.ensures)
