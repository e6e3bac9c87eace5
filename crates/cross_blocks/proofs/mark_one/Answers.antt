-- `mark_one`: the row lies in both lists, and has no more moves than entries.
use native.Mathlib.Omega.{arith}
use lib.ListN.{length}
use Rattle.cross_kinds.proofs.Along.{rows_few, row_some, distinct_few}
use Rattle.cross_blocks.proofs.Blocks.{row_wide}
use Rattle.cross_blocks.proofs.mark_one.Goals as goal

pub row-row-requires : goal.row-row-requires
row-row-requires c =
    (omega (arith, c.requires.loaded.2.few), omega (arith, rows_few c.args.kind (length c.args.one.now.list.now), c.requires.k_bound.0, c.requires.loaded.2.few))

pub mark_row-requires-clause-rowed : goal.mark_row-requires-clause-rowed
mark_row-requires-clause-rowed c =
    let n1 = length c.args.one.now.list.now in
    let n2 = length c.args.other.now.list.now in
    let some = row_some _ n1 n2 _ _ c.row-row.ensures c.requires.loaded.2.few c.requires.k_bound.0 in
    let fewer = rw (← c.row-row.ensures) at (distinct_few c.args.kind n1 n2 c.args.k) in
    let wide = rw (← c.row-row.ensures) at (row_wide c.args.kind n1 n2 c.args.k) in
    (some, omega (arith, fewer, wide, c.requires.k_bound.1))

pub returns : goal.returns
returns c =
    rw (c.is_tested.ensures, c.row-row.ensures) at c.mark_row.ensures
