-- `numbers::gain_floor` meets its contract: the literal 1e-12 is read as `tiny`, and the product is rounded once.
use mathlib.Core.Path.{refl}
use Rattle.numbers.specs.Floor.{gain_floor}
use Rattle.numbers.proofs.gain_floor.Goals as goal

pub returns : goal.returns
unfolding gain_floor
returns c =
    record { answer = refl }
