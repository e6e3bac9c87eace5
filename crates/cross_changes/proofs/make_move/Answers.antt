-- `make_move`: proofs/Making.antt has what the five edits leave together.
use lib.Ieee.{of_bits}
use Rattle.cross_changes.proofs.Making.{move_made}
use Rattle.cross_changes.proofs.make_move.Goals as goal

pub returns : goal.returns
unfolding of_bits
returns c =
    move_made _ _ _ _ c.args.m _ _ _ _ c.exchange_stretches.ensures c.requires.ids_len.0 c.requires.ids_len.1 _ _ _ _ _
    c.store_costs.ensures c.pack.ensures
    c.pack-2.ensures c.drop_empty.ensures.count c.drop_empty.ensures.lengths
