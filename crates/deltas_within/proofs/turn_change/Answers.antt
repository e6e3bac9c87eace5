-- `turn_change`: the four legs read, in the order of the definition.
use Rattle.deltas.specs.Changes.{turn_change}
use Rattle.deltas_within.proofs.turn_change.Goals as goal

pub returns : goal.returns
unfolding turn_change
returns c =
    rw (c.get-4.ensures, c.get-3.ensures, c.get-2.ensures, c.get.ensures)
