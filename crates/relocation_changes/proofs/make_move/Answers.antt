-- `make_move`: the tables are edited, and the cache follows.
use native.Mathlib.Omega.{arith}
use Rattle.loads.proofs.Tables.{list_visits, visit_below, still_held}
use Rattle.relocation_changes.proofs.Moving.{giver_room, receiver_room, place_low, known_after}
use Rattle.relocation_changes.proofs.make_move.Goals as goal

pub forget-requires : goal.forget-requires
forget-requires c =
    let below = visit_below _ _ _ c.requires.held.1 c.args.choice.from c.args.choice.position c.requires.relocates.visit_there in
    (omega (arith, c.visit_of-visit.ensures, below, c.requires.known.few), omega (arith, c.requires.relocates.gives, c.requires.relocates.laid.few))

pub forget-requires-2 : goal.forget-requires-2
forget-requires-2 c =
    let below = visit_below _ _ _ c.requires.held.1 c.args.choice.from c.args.choice.position c.requires.relocates.visit_there in
    (omega (arith, c.visit_of-visit.ensures, below, c.requires.known.few), omega (arith, c.requires.relocates.takes, c.requires.relocates.laid.few))

pub after_removal-requires-clause-listed : goal.after_removal-requires-clause-listed
after_removal-requires-clause-listed c =
    let then = still_held _ _ _ _ _ _ c.move_visit.ensures c.requires.held.1 in
    let room = giver_room _ _ _ _ _ _ _ _ _ c.requires.held.1 c.requires.relocates c.move_visit.ensures _ _
    c.list_of-giver.ensures c.narrow-left.ensures in
    rw c.matrix-matrix.ensures.size (record {
      depot_there = c.requires.held.0;
      visits = rw c.list_of-giver.ensures
          (list_visits _ _ _ then c.args.choice.from).below;
    })

pub after_removal-requires-clause-r_bound : goal.after_removal-requires-clause-r_bound
after_removal-requires-clause-r_bound c =
    let then = still_held _ _ _ _ _ _ c.move_visit.ensures c.requires.held.1 in
    let room = giver_room _ _ _ _ _ _ _ _ _ c.requires.held.1 c.requires.relocates c.move_visit.ensures _ _
    c.list_of-giver.ensures c.narrow-left.ensures in
    (omega (arith, c.requires.relocates.gives, c.requires.relocates.laid.few), room.0, room.1)

pub after_insertion-requires-clause-listed : goal.after_insertion-requires-clause-listed
after_insertion-requires-clause-listed c =
    let then = still_held _ _ _ _ _ _ c.move_visit.ensures c.requires.held.1 in
    let room = receiver_room _ _ _ _ _ _ _ _ _ c.requires.held.1 c.requires.relocates c.move_visit.ensures _ _
    c.list_of-receiver.ensures c.narrow-came.ensures in
    rw c.matrix-matrix.ensures.size (record {
      depot_there = c.requires.held.0;
      visits = rw c.list_of-receiver.ensures
          (list_visits _ _ _ then c.args.choice.to).below;
    })

pub after_insertion-requires-clause-r_bound : goal.after_insertion-requires-clause-r_bound
after_insertion-requires-clause-r_bound c =
    let then = still_held _ _ _ _ _ _ c.move_visit.ensures c.requires.held.1 in
    let room = receiver_room _ _ _ _ _ _ _ _ _ c.requires.held.1 c.requires.relocates c.move_visit.ensures _ _
    c.list_of-receiver.ensures c.narrow-came.ensures in
    (omega (arith, c.requires.relocates.takes, c.requires.relocates.laid.few), room.0, room.1)

pub after_insertion-requires-clause-by_index : goal.after_insertion-requires-clause-by_index
after_insertion-requires-clause-by_index c =
    rw c.matrix-matrix.ensures.size (place_low _ _ _ _ _ _ _ _ _ c.requires.held.1 c.requires.relocates c.move_visit.ensures _ _ _ _ c.requires.known _ _ _ _ _ _
    c.narrow-left.ensures c.list_of-giver.ensures c.forget.ensures c.forget-2.ensures (rw (c.matrix-matrix.ensures.size, c.matrix-matrix.ensures.entries) at c.after_removal.ensures))

pub returns-clause-known_2 : goal.returns-clause-known_2
returns-clause-known_2 c =
    known_after _ _ _ _ _ _ _ _ _ c.requires.held.1 c.requires.relocates c.move_visit.ensures _ _ _ _ c.requires.known _ _ _ _ _ _
    c.narrow-left.ensures c.list_of-giver.ensures c.forget.ensures c.forget-2.ensures (rw (c.matrix-matrix.ensures.size, c.matrix-matrix.ensures.entries) at c.after_removal.ensures) _ _ _
    c.narrow-came.ensures c.list_of-receiver.ensures (rw (c.matrix-matrix.ensures.size, c.matrix-matrix.ensures.entries) at c.after_insertion.ensures)
