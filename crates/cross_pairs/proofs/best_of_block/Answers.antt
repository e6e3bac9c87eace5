-- `best_of_block`: the tables that the functions of a block fill in are what cross_blocks' laws of a block ask of them. The marks stand in the second table
-- until the second list's costs take their place.
use mathlib.Core.Path.{sym, ◌∙◌}
use native.Mathlib.Omega.{arith}
use lib.ListN.{length}
use Rattle.cross_kinds.proofs.Along.{rows_few}
use Rattle.cross_blocks.proofs.Blocks.{block_shut, least_few, block_chosen}
use Rattle.cross_blocks.proofs.Sides.{block_few, block_wide}
use Rattle.cross_pairs.proofs.best_of_block.Goals as goal

pub mark_block-requires-clause-loaded : goal.mark_block-requires-clause-loaded
mark_block-requires-clause-loaded c =
    (c.requires.ready.asked.loaded, (c.requires.ready.first.driven, c.requires.ready.second.driven), c.requires.ready.two)

pub is_shut-requires : goal.is_shut-requires
is_shut-requires c =
    rw c.entries_of-count.ensures (block_few c.requires.block)

pub returns-then-is_shut : goal.returns-then-is_shut
returns-then-is_shut c =
    let shut = sym c.is_shut.ensures ∙ c.if-is_shut.true in
    block_shut _ c.args.demand.now c.args.pair.now c.args.one.now.list.now c.args.other.now.list.now c.args.rows.kind c.args.rows.first c.args.rows.width
    c.args.rows.count _ _ c.requires.block _ _ c.requires.ready.first.is_van c.requires.ready.second.is_van c.mark_block.ensures c.block_costs.ensures
    (rw c.entries_of-count.ensures at shut) c.args.best

pub least_of-least-requires : goal.least_of-least-requires
least_of-least-requires c =
    rw c.entries_of-count.ensures (block_few c.requires.block)

pub choose_of_block-requires : goal.choose_of_block-requires
choose_of_block-requires c =
    let is = rw c.entries_of-count.ensures at c.least_of-least.ensures in (
      omega (arith, c.requires.block.within, c.requires.block.some, rows_few c.args.rows.kind (length c.args.one.now.list.now), c.requires.ready.two.few),
      rw c.entries_of-count.ensures
          (least_few _ c.args.demand.now c.args.pair.now c.args.one.now.list.now c.args.other.now.list.now c.args.rows.kind c.args.rows.first
          c.args.rows.width c.args.rows.count _ _ c.requires.block _ _ c.requires.ready.first.is_van c.requires.ready.second.is_van
          c.mark_block.ensures c.block_costs.ensures _ c.block_costs-2.ensures c.args.best _ is),
      rw c.entries_of-count.ensures (block_few c.requires.block),
      rw c.entries_of-count.ensures (block_wide c.requires.block (omega (arith, c.requires.ready.two.few))),
    )

pub returns : goal.returns
returns c =
    let is = rw c.entries_of-count.ensures at c.least_of-least.ensures in
    let chosen = rw c.entries_of-count.ensures at c.choose_of_block.ensures in
    block_chosen _ c.args.demand.now c.args.pair.now c.args.one.now.list.now c.args.other.now.list.now c.args.rows.kind c.args.rows.first c.args.rows.width
    c.args.rows.count _ _ c.requires.block _ _ c.requires.ready.first.is_van c.requires.ready.second.is_van c.mark_block.ensures c.block_costs.ensures _
    c.block_costs-2.ensures c.args.best _ is _ chosen
