-- `broken_start`: field by field.
use mathlib.Core.Path.{refl}
use lib.Ieee.{of_bits}
use Rattle.break_clock.specs.Schedule.{begun}
use Rattle.broken_heads.specs.Head.{reached_as, clock_of}
use Rattle.broken_heads.proofs.broken_start.Goals as goal

pub returns : goal.returns
unfolding reached_as clock_of begun of_bits
returns c =
    (rw c.at_start.ensures, refl, refl)
