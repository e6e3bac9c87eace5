-- `end_with`: the definition, field by field.
use mathlib.Core.Path.{refl}
use Rattle.break_clock.specs.Schedule.{ended}
use Rattle.break_clock.proofs.end_with.Goals as goal

pub returns : goal.returns
unfolding ended
returns c =
    refl
