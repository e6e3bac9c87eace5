-- `new`: the definition, field by field.
use Rattle.break_clock.specs.Schedule.{begun}
use Rattle.break_clock.proofs.BreakClock.new.Goals as goal

pub returns : goal.returns
unfolding begun
returns c =
    rw c.at_start.ensures
