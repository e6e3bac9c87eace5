-- `best_across`: the two lists are searched.
use mathlib.Core.Path.{ap, ◌∙◌}
use native.Mathlib.Omega.{arith}
use lib.ListN.{length}
use Rattle.lists.proofs.Tables.{length_list}
use Rattle.loads.proofs.Tables.{list_visits, one_more}
use Rattle.soft_offers.proofs.Choosing.{pair_best}
use Rattle.soft_offers.proofs.best_across.Goals as goal

pub list_of-giver-requires : goal.list_of-giver-requires
list_of-giver-requires c =
    (c.requires.loaded.1.laid, c.requires.in_bounds.1)

pub list_of-receiver-requires : goal.list_of-receiver-requires
list_of-receiver-requires c =
    (c.requires.loaded.1.laid, c.requires.in_bounds.2)

pub best_priced-requires-clause-loaded : goal.best_priced-requires-clause-loaded
best_priced-requires-clause-loaded c =
    (c.requires.loaded.0, c.requires.in_bounds.0)

pub best_priced-requires-clause-two_of : goal.best_priced-requires-clause-two_of
best_priced-requires-clause-two_of c =
    let long = ap length c.list_of-receiver.ensures ∙ length_list _ _ c.requires.loaded.1.laid.add_up c.args.to in
    let some-room = one_more _ _ _ c.requires.loaded.1 _ _ c.requires.apart.0 (omega (arith, c.requires.apart.1)) in
    record {
      gives = rw c.list_of-giver.ensures (list_visits _ _ _ c.requires.loaded.1 c.args.from);
      takes = rw c.list_of-receiver.ensures (list_visits _ _ _ c.requires.loaded.1 c.args.to);
      room_there = omega (arith, long, some-room);
    }

pub returns : goal.returns
returns c =
    rw (c.best_priced.ensures, c.list_of-giver.ensures, c.list_of-receiver.ensures)
    (pair_best _ _ c.args.setup _ _ _ _ c.requires.apart.0)
