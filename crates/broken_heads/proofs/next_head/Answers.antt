-- `next_head`: the callees give the way, the travel, the stop and the three labels, in the definition's order.
use mathlib.Core.Path.{refl}
use native.Mathlib.Omega.{arith}
use Rattle.break_clock.specs.Schedule.{pushed}
use Rattle.broken_heads.specs.Head.{clock_of}
use Rattle.broken_heads.proofs.next_head.Goals as goal

pub distance-leg-requires : goal.distance-leg-requires
distance-leg-requires c =
    (c.requires.0, c.requires.1)

pub travel_time-travel-requires : goal.travel_time-travel-requires
travel_time-travel-requires c =
    (c.requires.0, c.requires.1)

pub stop-stop-requires : goal.stop-stop-requires
stop-stop-requires c =
    c.requires.1

pub overflow_add-result : goal.overflow_add-result
overflow_add-result c =
    omega (arith, c.requires.2)

pub returns : goal.returns
unfolding clock_of pushed
returns c = (
  rw (
    c.label_of.ensures,
    c.label_of-2.ensures,
    ← c.distance-leg.ensures,
    ← c.travel_time-travel.ensures,
    ← c.stop-stop.ensures,
    ← c.reached_as-before.ensures,
    ← c.reached_as-after.ensures,
    ← c.serve_next-skipped.ensures,
    ← c.serve_next_rested-here.ensures,
    ← c.serve_next-carried.ensures,
    ← c.earlier.ensures,
  ),
  refl,
  refl,
)
