-- `drive_candidate`: before each visit what is driven so far is the walk up to it; where no label is left, the rest leaves none.
use native.Mathlib.Omega.{arith}
use Rattle.cross_moves.proofs.Stretch.{length-changed}
use Rattle.cross_broken_drives.proofs.Drives.{driving_starts, driving_turns, driving_begins, driving_stops, driving_ends}
use Rattle.cross_broken_drives.proofs.Drives.{visits_changed}
use Rattle.cross_broken_drives.proofs.drive_candidate.Goals as goal
use Rattle.cross_broken_drives.proofs.drive_candidate.Goals.{then-i-from, else-i-from}

pub loop-i-init : goal.loop-i-init
loop-i-init c =
    let long = length-changed c.args.list.now c.args.other.now _ _ c.args.other_from _ c.requires.from_le_to.0 c.requires.from_le_to.1 c.requires.from_le_to.3 in
    driving_starts _ _ _ _ _ (omega (arith, long, c.requires.place_lt_l.2)) c.requires.place_lt_l.2 c.requires.place_lt_l.0

pub returns-then-not-any_left : goal.returns-then-not-any_left
returns-then-not-any_left c =
    driving_stops _ _ _ _ _ _ _ _ c.loop-i.invariant _ c.if-from-i.true c.any_left.ensures c.if-not-any_left.true

pub next_head-head-requires : goal.next_head-head-requires
next_head-head-requires c =
    let long = length-changed c.args.list.now c.args.other.now _ _ c.args.other_from _ c.requires.from_le_to.0 c.requires.from_le_to.1 c.requires.from_le_to.3 in
    let visits = visits_changed c.args.list.now c.args.other.now _ _ _ _ c.requires.from_le_to.0 c.requires.from_le_to.1 c.requires.from_le_to.2 c.requires.from_le_to.3 c.requires.two in (
      c.loop-i.invariant.placed,
      rw c.visit_at-visit.ensures (visits.below _ (omega (arith, long, c.loop-i-test.true))),
      omega (arith, c.loop-i.invariant.counted, c.requires.place_lt_l.1, long, visits.few, c.loop-i-test.true),
    )

pub loop-i-preserved : goal.loop-i-preserved
loop-i-preserved c =
    let long = length-changed c.args.list.now c.args.other.now _ _ c.args.other_from _ c.requires.from_le_to.0 c.requires.from_le_to.1 c.requires.from_le_to.3 in
    let visits = visits_changed c.args.list.now c.args.other.now _ _ _ _ c.requires.from_le_to.0 c.requires.from_le_to.1 c.requires.from_le_to.2 c.requires.from_le_to.3 c.requires.two in
    elim c.if-i-from.branch [
      | then-i-from w ↦
          rw w.kept-is (driving_begins _ _ _ _ _ _ _ _ c.loop-i.invariant _ _ (omega (arith, long, c.loop-i-test.true))
          (rw c.visit_at-visit.ensures (visits.below _ (omega (arith, long, c.loop-i-test.true)))) c.visit_at-visit.ensures c.next_head-head.ensures.0
          c.next_head-head.ensures.1 c.next_head-head.ensures.2 w.if-i-from.true)
      | else-i-from w ↦
          rw w.kept-is (driving_turns _ _ _ _ _ _ _ _ c.loop-i.invariant _ _ (omega (arith, long, c.loop-i-test.true))
          (rw c.visit_at-visit.ensures (visits.below _ (omega (arith, long, c.loop-i-test.true)))) c.visit_at-visit.ensures c.next_head-head.ensures.0
          c.next_head-head.ensures.1 c.next_head-head.ensures.2 w.if-i-from.false)
    ]

pub returns : goal.returns
returns c =
    let long = length-changed c.args.list.now c.args.other.now _ _ c.args.other_from _ c.requires.from_le_to.0 c.requires.from_le_to.1 c.requires.from_le_to.3 in
    driving_ends _ _ _ _ _ _ _ _ c.loop-i.invariant (omega (arith, long)) (omega (arith, long, c.loop-i-test.false))
