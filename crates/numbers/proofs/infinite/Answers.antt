-- `numbers::infinite` meets its contract: 1 by 0 computes to the positive infinity.
use mathlib.Core.Path.{refl}
use lib.Ieee.{div, of_bits}
use Rattle.numbers.proofs.infinite.Goals as goal

pub returns : goal.returns
unfolding div of_bits
returns c =
    record { answer = refl }
