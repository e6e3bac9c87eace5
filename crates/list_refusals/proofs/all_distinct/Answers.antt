-- `all_distinct`: proofs/Seen.antt has the start of the loop, its turn and its ends.
use Rattle.list_refusals.proofs.Seen.{seen_starts, seen_again, seen_turns, seen_ends}
use Rattle.list_refusals.proofs.all_distinct.Goals as goal

pub loop-visit-init : goal.loop-visit-init
loop-visit-init c =
    seen_starts _

pub returns-then-seen-office : goal.returns-then-seen-office
returns-then-seen-office c =
    seen_again _ _ _ c.loop-visit.invariant c.loop-visit-test.true (rw c.from-office.ensures at c.if-seen-office.true)

pub loop-visit-preserved : goal.loop-visit-preserved
loop-visit-preserved c =
    let there = c.loop-visit-test.true in
    rw c.from-office.ensures (seen_turns _ _ _ c.loop-visit.invariant there (c.requires c.loop-visit.visit-index there)
    (rw c.from-office.ensures at c.if-seen-office.false))

pub returns : goal.returns
returns c =
    seen_ends _ _ _ c.loop-visit.invariant c.loop-visit-test.false
