-- `schedule`: what is driven and the rest of the list make the whole walk. Where no label is left, none comes again.
use borrow.Author.Rules.{rules}
use Prim.Native.Nat.{ℕ, ◌+◌}
use mathlib.Core.Path.{refl, ap, ◌∙◌}
use lib.Ieee.{of_bits}
use Rattle.break_clock.specs.Schedule.{begun, pushed, schedule_turns, schedule_stops, schedule_ends, schedule_is}
use Rattle.break_clock.proofs.schedule.Goals as goal

pub loop-visit-init : goal.loop-visit-init
unfolding begun of_bits
loop-visit-init c =
    (search rules, c.requires.0, rw c.new-clock.ensures c.requires.0, rw c.new-clock.ensures, refl)

pub returns-then-not-any_left : goal.returns-then-not-any_left
unfolding of_bits
returns-then-not-any_left c =
    schedule_stops _ _ _ _ _ _ _ _ _ c.loop-visit-test.true (rw c.from-visit.ensures at c.push-clock.ensures) c.any_left.ensures (c.if-not-any_left.true)
    ∙ schedule_is _ _ _ _ _ _ c.new-clock.ensures c.loop-visit.invariant.4

pub loop-visit-preserved : goal.loop-visit-preserved
unfolding pushed
loop-visit-preserved c = (
  search rules,
  rw c.from-visit.ensures (c.requires.1.below c.loop-visit.visit-index c.loop-visit-test.true),
  rw (c.push-clock.ensures, c.from-visit.ensures) (c.requires.1.below c.loop-visit.visit-index c.loop-visit-test.true),
  rw c.push-clock.ensures (ap (λ (n : ℕ). n + 1) c.loop-visit.invariant.3),
  rw c.from-visit.ensures (schedule_turns _ _ _ _ _ _ _ _ c.loop-visit-test.true (rw c.from-visit.ensures at c.distance-distance.ensures) (rw c.from-visit.ensures at c.push-clock.ensures) ∙ c.loop-visit.invariant.4),
)

pub returns : goal.returns
unfolding of_bits
returns c =
    c.finish.ensures
    ∙ rw c.travel_time-back.ensures (schedule_ends _ _ _ _ _ _ _ _ c.loop-visit-test.false c.distance-distance-2.ensures)
    ∙ schedule_is _ _ _ _ _ _ c.new-clock.ensures c.loop-visit.invariant.4
