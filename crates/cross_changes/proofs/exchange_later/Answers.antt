-- `exchange_later`: the tails are exchanged twice.
use Rattle.cross_changes.proofs.Exchanging.{cuts_first, cuts-second, exchanged_both}
use Rattle.cross_changes.proofs.exchange_later.Goals as goal

pub exchange_tails-requires : goal.exchange_tails-requires
exchange_tails-requires c =
    cuts_first _ _ c.args.m c.requires.0 c.requires.1

pub exchange_tails-requires-2 : goal.exchange_tails-requires-2
exchange_tails-requires-2 c =
    cuts-second _ _ c.args.m c.requires.0 _ _ c.exchange_tails.ensures c.requires.1

pub returns : goal.returns
returns c =
    exchanged_both _ _ c.args.m c.requires.0 _ _ c.exchange_tails.ensures _ _ c.exchange_tails-2.ensures
