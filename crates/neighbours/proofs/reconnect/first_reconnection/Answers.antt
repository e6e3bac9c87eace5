-- `first_reconnection`: there is room for three cuts from i on, or there is not.
use Rattle.neighbours.proofs.Onward.{cut-first, cut_none}
use Rattle.neighbours.proofs.reconnect.first_reconnection.Goals as goal

pub returns-then-i-n : goal.returns-then-i-n
returns-then-i-n c =
    cut-first _ _ c.if-i-n.true

pub returns : goal.returns
returns c =
    cut_none _ _ c.if-i-n.false
