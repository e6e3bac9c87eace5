-- `moved_down`: a truth as a number is 1 or 0, as the definition's two cases have it.
use mir.Val.{bool_byte}
use mathlib.Core.Path.{◌≡◌, refl}
use Prim.Native.Nat.{ℕ, ◌-◌}
use mathlib.Core.Bool.{Bool, true, false, cond}
use native.Mathlib.Omega.{arith}
use Rattle.insertions.specs.Cache.{moved_down}
use Rattle.insertions.proofs.moved_down.Goals as goal

less_bit : (b : Bool) (k : ℕ) → k - bool_byte b ≡ cond b (k - 1) k
less_bit true k = refl
less_bit false k = omega arith

pub returns : goal.returns
unfolding moved_down
returns c =
    rw c.from.ensures (less_bit _ _)
