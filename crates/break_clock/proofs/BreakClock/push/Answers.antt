-- `push`: the callees give the travel, the stop and the three labels, in the definition's order.
use Rattle.break_clock.specs.Schedule.{pushed}
use Rattle.break_clock.proofs.BreakClock.push.Goals as goal

pub returns : goal.returns
unfolding pushed
returns c =
    rw (← c.travel_time-travel.ensures, ← c.stop-stop.ensures, ← c.serve_next-skipped.ensures, ← c.serve_next_rested-here.ensures, ← c.serve_next-carried.ensures, ← c.earlier.ensures)
