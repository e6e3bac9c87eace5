-- `fits`: the definition by prefix loads, of which none is over 63,000,000, so that no sum can wrap.
use borrow.Author.Rules.{rules}
use mathlib.Core.Path.{ap, ◌∙◌}
use Prim.Native.Nat.{◌<◌}
use native.Mathlib.Nat.{lt_of_le_of_lt}
use native.Mathlib.Omega.{arith}
use lib.IntN.{nat_abs}
use lib.Dec.{lit<}
use lib.Signed.{nat_abs-le}
use mir.Syntax.{w32}
use mir.Val.{SFits}
use mir.ValLaws.{to_z-of_z}
use Rattle.cross_moves.proofs.Fitting.{loads_few, fits_is}
use Rattle.cross_moves.proofs.side.Side.fits.Goals as goal

pub overflow_add-come : goal.overflow_add-come
overflow_add-come c =
    let few = loads_few _ _ _ _ _ _ c.requires.loaded.0 c.requires.loaded.2 c.requires.prefixed.0 c.requires.prefixed.1 _ _ _ _ c.requires.from_le_to.0
    c.requires.from_le_to.1
    c.requires.from_le_to.2 c.requires.from_le_to.3 in
    omega (arith, few.0, few.1, few.2, few.3, few.4)

pub overflow_add-come-2 : goal.overflow_add-come-2
overflow_add-come-2 c =
    let few = loads_few _ _ _ _ _ _ c.requires.loaded.0 c.requires.loaded.2 c.requires.prefixed.0 c.requires.prefixed.1 _ _ _ _ c.requires.from_le_to.0
    c.requires.from_le_to.1
    c.requires.from_le_to.2 c.requires.from_le_to.3 in
    omega (arith, few.0, few.1, few.2, few.3, few.4)

pub overflow_add-gone : goal.overflow_add-gone
overflow_add-gone c =
    let few = loads_few _ _ _ _ _ _ c.requires.loaded.0 c.requires.loaded.2 c.requires.prefixed.0 c.requires.prefixed.1 _ _ _ _ c.requires.from_le_to.0
    c.requires.from_le_to.1
    c.requires.from_le_to.2 c.requires.from_le_to.3 in
    omega (arith, few.0, few.1, few.2, few.3, few.4)

pub overflow_add-result : goal.overflow_add-result
overflow_add-result c =
    let few = loads_few _ _ _ _ _ _ c.requires.loaded.0 c.requires.loaded.2 c.requires.prefixed.0 c.requires.prefixed.1 _ _ _ _ c.requires.from_le_to.0
    c.requires.from_le_to.1
    c.requires.from_le_to.2 c.requires.from_le_to.3 in
    let fit : SFits w32 c.args.self.now.van.capacity = search rules in
    let small : nat_abs c.args.self.now.van.capacity < 1000000000000 = lt_of_le_of_lt (nat_abs-le c.args.self.now.van.capacity fit.sfits) (lit< tt) in
    let boxes = c.boxes_in.ensures ∙ ap nat_abs (to_z-of_z w32 c.args.self.now.van.capacity fit) in
    omega (arith, small, boxes, few.2, few.3)

pub returns : goal.returns
returns c =
    let fit : SFits w32 c.args.self.now.van.capacity = search rules in
    let boxes = c.boxes_in.ensures ∙ ap nat_abs (to_z-of_z w32 c.args.self.now.van.capacity fit) in
    fits_is _ _ _ _ _ _ c.requires.loaded.0 c.requires.loaded.2 c.requires.prefixed.0 c.requires.prefixed.1 _ _ _ _ c.requires.from_le_to.0 c.requires.from_le_to.1
    c.requires.from_le_to.2 c.requires.from_le_to.3 c.args.self.now.van _ boxes
