-- `moved_up`: a truth as a number is 1 or 0, as the definition's two cases have it.
use mir.Val.{bool_byte}
use mathlib.Core.Path.{◌≡◌, refl}
use Prim.Native.Nat.{ℕ, ◌+◌}
use mathlib.Core.Bool.{Bool, true, false, cond}
use native.Mathlib.Omega.{arith}
use Rattle.insertions.specs.Cache.{moved_up}
use Rattle.insertions.proofs.moved_up.Goals as goal

more_bit : (b : Bool) (k : ℕ) → k + bool_byte b ≡ cond b (k + 1) k
more_bit true k = refl
more_bit false k = omega arith

pub returns : goal.returns
unfolding moved_up
returns c =
    rw c.from.ensures (more_bit _ _)
