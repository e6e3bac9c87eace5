-- `get`: the entry at from * l + to is inside a table of l times l numbers, of which there are at most 4096.
use mathlib.Core.Path.{refl}
use Rattle.day.specs.Matrix.{leg, entry_below}
use native.Mathlib.Nat.{mul-le-mul}
use native.Mathlib.Omega.{arith}
use mir.Facts.{Fits-le, Fits-lit}
use Rattle.day.proofs.matrix.Matrix.get.Goals as goal

pub overflow_mul-result : goal.overflow_mul-result
overflow_mul-result c =
    Fits-le (omega (arith, entry_below _ _ _ c.requires.0 c.requires.1, mul-le-mul c.args.self.now.square.few c.args.self.now.square.few)) (Fits-lit {n = 4096} tt)

pub overflow_add-result : goal.overflow_add-result
overflow_add-result c =
    Fits-le (omega (arith, entry_below _ _ _ c.requires.0 c.requires.1, mul-le-mul c.args.self.now.square.few c.args.self.now.square.few)) (Fits-lit {n = 4096} tt)

pub offset_bounds-self-from : goal.offset_bounds-self-from
offset_bounds-self-from c =
    Fits-le (omega (arith, entry_below _ _ _ c.requires.0 c.requires.1, mul-le-mul c.args.self.now.square.few c.args.self.now.square.few)) (Fits-lit {n = 32768} tt)

pub bounds-self-from : goal.bounds-self-from
bounds-self-from c =
    rw c.args.self.now.square.size (entry_below _ _ _ c.requires.0 c.requires.1)

pub returns : goal.returns
unfolding leg
returns c =
    refl
