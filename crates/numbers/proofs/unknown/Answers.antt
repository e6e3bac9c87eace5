-- `numbers::unknown` meets its contract: 0 by 0 computes to a NaN.
use mathlib.Core.Path.{refl}
use lib.Ieee.{div, of_bits}
use Rattle.numbers.proofs.unknown.Goals as goal

pub returns : goal.returns
unfolding div of_bits
returns c =
    record { answer = refl }
