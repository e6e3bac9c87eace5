-- `entry`: three reads at the slot, which is below 256.
use mir.Val.{bool_byte}
use mathlib.Core.Path.{◌≡◌, refl}
use mathlib.Core.Bool.{Bool, true, false}
use Rattle.pairs.specs.Pairs.{entry, found_if}
use Rattle.pairs.proofs.PairTable.entry.Goals as goal

bit_is : (b : Bool) → bool_byte b ≡ found_if b
unfolding found_if
bit_is true = refl
bit_is false = refl

pub returns : goal.returns
unfolding entry
returns c =
    rw (c.from.ensures, c.from-2.ensures, c.from-3.ensures, bit_is)
