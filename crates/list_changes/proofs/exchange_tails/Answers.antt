-- `list_changes::exchange_tails` meets its contract: the two tails lie in the table in their order, and proofs/Across.antt has what the two edits make of the
-- lists. Assumes nothing.
use native.Mathlib.Omega.{arith}
use borrow.Author.Rules.{rules}
use Rattle.list_changes.proofs.Across.{tails_room, tails_edited}
use Rattle.list_changes.proofs.exchange_tails.Goals as goal

pub exchange_outer-requires : goal.exchange_outer-requires
exchange_outer-requires c =
    let room = tails_room _ _ _ _ _ _ c.requires in
    omega (arith, c.place_of-from.ensures, c.end_of-a.ensures, c.place_of-b.ensures, c.end_of-to.ensures)

pub exchange_lengths-requires : goal.exchange_lengths-requires
exchange_lengths-requires c =
    let room = tails_room _ _ _ _ _ _ c.requires in
    search rules

pub returns : goal.returns
returns c =
    rw (c.exchange_outer.ensures, c.exchange_lengths.ensures)
    (tails_edited _ _ _ _ _ _ c.requires _ _ _ _ c.place_of-from.ensures c.end_of-a.ensures c.place_of-b.ensures
    c.end_of-to.ensures)
