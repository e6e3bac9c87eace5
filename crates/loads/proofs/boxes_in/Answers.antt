-- `boxes_in`: a number that is not below 0 is its own size, so that the cast is defined.
-- what the machine reads back from the bits of `x` is not negative
use mathlib.Core.Path.{sym, ap, subst}
use native.Mathlib.Nat.{lt_of_le_of_lt}
use lib.IntN.{ℤ, pos, nat_abs}
use lib.Dec.{lit<}
use lib.Signed.{◌≤ℤ◌, le_z, le_z_yes, yes_non_neg, nat_abs-le}
use mir.Syntax.{w32, w64}
use mir.Val.{Fits, to_z, of_z}
use mir.ValLaws.{to_z-of_z}
use Rattle.descent.proofs.Members.{true-T}
use Rattle.loads.proofs.boxes_in.Goals as goal

read_pos : (c : goal.Start) → pos 0 ≤ℤ to_z w32 (of_z w32 c.args.x)
read_pos c = subst (λ (z : ℤ). pos 0 ≤ℤ z) (sym (to_z-of_z w32 c.args.x c.ranges.x)) (le_z_yes (true-T (le_z (pos 0) c.args.x) c.requires))

pub overflow_cast-result : goal.overflow_cast-result
overflow_cast-result c = (
  yes_non_neg (read_pos c),
  subst (λ (z : ℤ). Fits w64 (nat_abs z)) (sym (to_z-of_z w32 c.args.x c.ranges.x))
      (record { fits = lt_of_le_of_lt (nat_abs-le c.args.x c.ranges.x.sfits) (lit< tt) }),
)

pub returns : goal.returns
returns c =
    ap nat_abs (to_z-of_z w32 c.args.x c.ranges.x)
