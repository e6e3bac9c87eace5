-- `tails_change`: the four legs read, in the order of the definition.
use Rattle.deltas.specs.Changes.{tails_change}
use Rattle.deltas_across.proofs.tails_change.Goals as goal

pub returns : goal.returns
unfolding tails_change
returns c =
    rw (c.get-new_edge2.ensures, c.get-new_edge1.ensures, c.get-old_edge2.ensures, c.get-old_edge1.ensures)
