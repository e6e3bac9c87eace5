-- `no_choice`: field by field.
use mathlib.Core.Path.{refl}
use lib.Ieee.{of_bits}
use Rattle.cross_deltas.proofs.no_choice.Goals as goal

pub returns : goal.returns
unfolding of_bits
returns c =
    refl
