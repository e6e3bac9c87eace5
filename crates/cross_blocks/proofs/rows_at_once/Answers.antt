-- `rows_at_once`: where all rows don't fit, 64 entries have room for one at least, and for fewer than are left.
use native.Mathlib.Nat.{div-mul-le_self}
use native.Mathlib.Omega.{arith}
use Rattle.cross_blocks.proofs.Tables.{few_entries, rows_some, rows_left}
use Rattle.cross_blocks.proofs.rows_at_once.Goals as goal

pub overflow_mul-left : goal.overflow_mul-left
overflow_mul-left c =
    let few = few_entries c.args.left c.args.width c.requires.2 c.requires.0 in
    omega (arith, few)

pub returns : goal.returns
returns c = (
  rows_some c.args.width c.args.left c.requires.0 c.if-left-width-le64.false,
  rows_left c.args.width c.args.left c.requires.0 c.if-left-width-le64.false,
  div-mul-le_self 64 c.args.width,
)
