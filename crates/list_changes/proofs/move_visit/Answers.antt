-- `list_changes::move_visit` meets its contract: both places lie in the table, and proofs/Across.antt has what the two edits make of the lists. Assumes
-- nothing.
use native.Mathlib.Omega.{arith}
use Rattle.list_changes.proofs.Across.{relocation_room, relocate_edited}
use Rattle.list_changes.proofs.move_visit.Goals as goal

pub move_one-requires : goal.move_one-requires
move_one-requires c =
    let room = relocation_room _ _ _ _ _ _ c.requires in
    omega (arith, c.place_of-p.ensures, c.place_of-q.ensures)

pub move_length-requires-clause-nonzero : goal.move_length-requires-clause-nonzero
move_length-requires-clause-nonzero c =
    let room = relocation_room _ _ _ _ _ _ c.requires in
    (room.gives_one, room.takes_one)

pub returns : goal.returns
returns c =
    rw (c.move_one.ensures, c.move_length.ensures)
    (relocate_edited _ _ _ _ _ _ c.requires _ _ c.place_of-p.ensures c.place_of-q.ensures)
