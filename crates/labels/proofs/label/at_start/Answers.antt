-- `at_start`: the definition, field by field.
use lib.Ieee.{of_bits}
use mathlib.Core.Path.{refl}
use Rattle.labels.specs.Label.{at_start}
use Rattle.labels.proofs.label.at_start.Goals as goal

pub returns : goal.returns
unfolding at_start of_bits
returns c =
    refl
