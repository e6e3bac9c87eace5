-- `turned_leg`: the two legs read, in the order of the definition.
use Rattle.deltas_within.proofs.turned_leg.Goals as goal

pub returns : goal.returns
returns c =
    rw (c.get-2.ensures, c.get.ensures)
