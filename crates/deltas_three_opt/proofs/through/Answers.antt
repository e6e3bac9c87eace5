-- `through`: the three legs read, in the order of the definition.
use Rattle.deltas.specs.Changes.{through}
use Rattle.deltas_three_opt.proofs.through.Goals as goal

pub returns : goal.returns
unfolding through
returns c =
    rw (c.get-3.ensures, c.get-2.ensures, c.get.ensures)
