-- `block_costs`: before each row the costs of those before it are put down.
use mathlib.Core.Path.{refl, ◌∙◌}
use Prim.Native.Nat.{◌+◌, ◌-◌, ◌*◌}
use native.Mathlib.Omega.{arith}
use lib.ListN.{length}
use borrow.Rule.Slice.PartMut.{same_len_mid}
use Rattle.cross_blocks.proofs.Tables.{rows_start, rows_turn, rows_end}
use Rattle.cross_blocks.proofs.Sides.{entries_few, row_there, lent_long, lent_wide, side_few, counts_wide, costed_part}
use Rattle.cross_blocks.proofs.block_costs.Goals as goal

pub loop-i-init : goal.loop-i-init
loop-i-init c =
    (omega arith, rows_start _ _ _ _)

pub overflow_mul-from : goal.overflow_mul-from
overflow_mul-from c =
    omega (arith, entries_few c.requires.block _ c.loop-i-test.true)

pub overflow_add-to : goal.overflow_add-to
overflow_add-to c =
    omega (arith, entries_few c.requires.block _ c.loop-i-test.true)

pub overflow_add-rows : goal.overflow_add-rows
overflow_add-rows c =
    let there = row_there c.requires.block _ c.loop-i-test.true in
    omega (arith, side_few c.args.rows.kind c.args.turned _ _ _ c.requires.driven.1.few there)

pub offset_bounds-skip-from : goal.offset_bounds-skip-from
offset_bounds-skip-from c =
    omega (arith, entries_few c.requires.block _ c.loop-i-test.true)

pub slice_bounds-cost_one-end : goal.slice_bounds-cost_one-end
slice_bounds-cost_one-end c =
    omega (arith, entries_few c.requires.block _ c.loop-i-test.true)

pub offset_bounds-costs-from : goal.offset_bounds-costs-from
offset_bounds-costs-from c =
    omega (arith, entries_few c.requires.block _ c.loop-i-test.true)

pub slice_bounds-cost_one-end-in-loop-i : goal.slice_bounds-cost_one-end-in-loop-i
slice_bounds-cost_one-end-in-loop-i c =
    omega (arith, entries_few c.requires.block _ c.loop-i-test.true, c.loop-i.invariant.0)

pub cost_one-requires-clause-kept : goal.cost_one-requires-clause-kept
cost_one-requires-clause-kept c =
    (c.requires.kept, row_there c.requires.block _ c.loop-i-test.true)

pub cost_one-requires-clause-other_in_bounds : goal.cost_one-requires-clause-other_in_bounds
cost_one-requires-clause-other_in_bounds c = (
  lent_wide c.requires.block _ c.loop-i-test.true _ (omega arith),
  lent_wide c.requires.block _ c.loop-i-test.true _
      c.loop-i.invariant.0,
)

pub loop-i-preserved : goal.loop-i-preserved
loop-i-preserved c =
    let n = length c.args.side.now.list.now in
    let m = length c.args.other.now in
    let from = c.loop-i.i * c.args.rows.width in
    let to = from + c.args.rows.width in
    let few = entries_few c.requires.block c.loop-i.i c.loop-i-test.true in
    let wide = counts_wide c.args.turned n m c.requires.block in (
      same_len_mid from (to - from) c.loop-i.costs c.cost_one.new.costs c.cost_one.auto.costs ∙ c.loop-i.invariant.0,
      rows_turn _ _ _ wide c.loop-i.i from to c.loop-i.costs c.cost_one.new.costs refl refl (omega (arith, few, c.loop-i.invariant.0))
          (c.cost_one.auto.costs ∙ lent_long c.requires.block c.loop-i.i c.loop-i-test.true c.loop-i.costs c.loop-i.invariant.0) c.loop-i.invariant.1
          (costed_part _ _ _ _ _ from to c.args.skip.now c.cost_one.new.costs c.args.rows.width refl (wide c.loop-i.i) c.cost_one.ensures),
    )

pub returns : goal.returns
returns c =
    rows_end _ _ _ _ _ _ c.loop-i.invariant.1 c.loop-i-test.false
