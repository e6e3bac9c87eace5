-- `entries_of`: the last row begins behind the others, and ends where the block has room.
use mathlib.Core.Path.{ap}
use Prim.Native.Nat.{◌-◌, ◌<◌}
use native.Mathlib.Omega.{arith}
use Rattle.cross_kinds.specs.declared.kind.Row.{Row}
use Rattle.cross_kinds.proofs.Along.{rows_few}
use Rattle.cross_blocks.specs.Blocks.{entries_in}
use Rattle.cross_blocks.proofs.Tables.{row_ends}
use Rattle.cross_blocks.proofs.Blocks.{count_wide}
use Rattle.cross_blocks.proofs.entries_of.Goals as goal

pub overflow_add-rows : goal.overflow_add-rows
overflow_add-rows c =
    omega (arith, c.requires.0.within, c.requires.1, rows_few c.args.rows.kind c.args.n1)

pub row-last-requires : goal.row-last-requires
row-last-requires c =
    (c.requires.2, omega (arith, c.requires.0.within, c.requires.0.some, c.requires.1, rows_few c.args.rows.kind c.args.n1))

pub overflow_mul-result : goal.overflow_mul-result
overflow_mul-result c =
    let last : c.args.rows.count - 1 < c.args.rows.count = omega (arith, c.requires.0.some) in
    omega (arith, row_ends (c.args.rows.count - 1) c.args.rows.count c.args.rows.width last, c.requires.0.room)

pub overflow_add-result : goal.overflow_add-result
overflow_add-result c =
    let last : c.args.rows.count - 1 < c.args.rows.count = omega (arith, c.requires.0.some) in
    let count = ap (λ (r : Row). r.count) c.row-last.ensures in
    omega (
      arith,
      row_ends (c.args.rows.count - 1) c.args.rows.count c.args.rows.width last,
      c.requires.0.room,
      count,
      count_wide c.requires.0 (c.args.rows.count - 1),
    )

pub returns : goal.returns
unfolding entries_in
returns c =
    rw c.row-last.ensures
