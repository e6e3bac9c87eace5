-- `mark_block`: before each row the marks of those before it are put down.
use mathlib.Core.Path.{refl, ◌∙◌}
use Prim.Native.Nat.{◌+◌, ◌-◌, ◌*◌}
use native.Mathlib.Omega.{arith}
use lib.ListN.{length}
use borrow.Rule.Slice.PartMut.{same_len_mid}
use Rattle.cross_kinds.proofs.Along.{rows_few}
use Rattle.cross_blocks.proofs.Tables.{rows_start, rows_turn, rows_end}
use Rattle.cross_blocks.proofs.Sides.{entries_few, row_there, lent_long, lent_wide, distinct_wide}
use Rattle.cross_blocks.proofs.mark_block.Goals as goal

pub loop-i-init : goal.loop-i-init
loop-i-init c =
    (omega arith, rows_start _ _ _ _)

pub overflow_mul-from : goal.overflow_mul-from
overflow_mul-from c =
    omega (arith, entries_few c.requires.block _ c.loop-i-test.true)

pub overflow_add-to : goal.overflow_add-to
overflow_add-to c =
    omega (arith, entries_few c.requires.block _ c.loop-i-test.true)

pub overflow_add-rows : goal.overflow_add-rows
overflow_add-rows c =
    let there = row_there c.requires.block _ c.loop-i-test.true in
    omega (arith, there, rows_few c.args.rows.kind (length c.args.one.now.list.now), c.requires.loaded.2.few)

pub offset_bounds-marks-from : goal.offset_bounds-marks-from
offset_bounds-marks-from c =
    omega (arith, entries_few c.requires.block _ c.loop-i-test.true)

pub slice_bounds-mark_one-end : goal.slice_bounds-mark_one-end
slice_bounds-mark_one-end c =
    omega (arith, entries_few c.requires.block _ c.loop-i-test.true, c.loop-i.invariant.0)

pub mark_one-requires-clause-k_bound : goal.mark_one-requires-clause-k_bound
mark_one-requires-clause-k_bound c = (
  row_there c.requires.block _ c.loop-i-test.true,
  lent_wide c.requires.block _
      c.loop-i-test.true _ c.loop-i.invariant.0,
)

pub loop-i-preserved : goal.loop-i-preserved
loop-i-preserved c =
    let from = c.loop-i.i * c.args.rows.width in
    let to = from + c.args.rows.width in
    let few = entries_few c.requires.block c.loop-i.i c.loop-i-test.true in (
      same_len_mid from (to - from) c.loop-i.marks c.mark_one.new.marks c.mark_one.auto.marks ∙ c.loop-i.invariant.0,
      rows_turn _ _ _ (distinct_wide c.requires.block) c.loop-i.i from to c.loop-i.marks c.mark_one.new.marks refl refl (omega (arith, few, c.loop-i.invariant.0))
          (c.mark_one.auto.marks ∙ lent_long c.requires.block c.loop-i.i c.loop-i-test.true c.loop-i.marks c.loop-i.invariant.0) c.loop-i.invariant.1
          c.mark_one.ensures.mark_at,
    )

pub returns : goal.returns
returns c =
    rows_end _ _ _ _ _ _ c.loop-i.invariant.1 c.loop-i-test.false
