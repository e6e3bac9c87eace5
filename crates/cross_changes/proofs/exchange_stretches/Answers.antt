-- `exchange_stretches`: seen from the earlier list.
use Rattle.cross_changes.proofs.Exchanging.{makes_turned, later_turned, turned_same}
use Rattle.cross_changes.proofs.exchange_stretches.Goals as goal

pub exchange_later-requires-2 : goal.exchange_later-requires-2
exchange_later-requires-2 c =
    rw c.turned_move.ensures (makes_turned _ _ c.args.m c.requires, later_turned _ _ c.args.m c.requires c.if-m.false)

pub returns : goal.returns
returns c =
    rw (c.turned_move.ensures, turned_same _ _ c.args.m c.requires) at c.exchange_later-2.ensures
