-- `in_time`: the definition, field by field.
use mathlib.Core.Path.{refl}
use Rattle.labels.specs.Label.{in_time}
use Rattle.labels.proofs.label.in_time.Goals as goal

pub returns : goal.returns
unfolding in_time
returns c =
    refl
