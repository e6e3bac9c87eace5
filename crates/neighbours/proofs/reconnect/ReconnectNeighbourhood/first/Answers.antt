-- `Reconnect::first`: a list of fewer than four has no cut.
use Rattle.neighbours.proofs.Onward.{cuts-few, cuts_many}
use Rattle.neighbours.proofs.reconnect.ReconnectNeighbourhood.first.Goals as goal

pub returns-then-n-lt4 : goal.returns-then-n-lt4
returns-then-n-lt4 c =
    cuts-few _ c.if-n-lt4.true

pub returns : goal.returns
returns c =
    cuts_many _ _ c.if-n-lt4.false c.first_reconnection.ensures
