-- `first_reversal`: the row at i has a reversal, or no row has.
use Rattle.neighbours.proofs.Onward.{turned-first, turned_none}
use Rattle.neighbours.proofs.reverse.first_reversal.Goals as goal

pub returns-then-i-n : goal.returns-then-i-n
returns-then-i-n c =
    turned-first _ _ c.if-i-n.true

pub returns : goal.returns
returns c =
    turned_none _ _ c.if-i-n.false
