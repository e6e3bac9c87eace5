-- `cost_one`: the row lies in both lists and in its entries; what its first list costs is copied on where others are the same.
use native.Mathlib.Omega.{arith}
use lib.ListN.{length}
use Rattle.cross_kinds.proofs.Along.{row_part}
use Rattle.cross_blocks.proofs.Sides.{side_few, side_lies, costed_row}
use Rattle.cross_blocks.proofs.cost_one.Goals as goal

pub side_of-row-requires : goal.side_of-row-requires
side_of-row-requires c =
    let n = length c.args.side.now.list.now in
    let m = length c.args.other.now in
    (omega (arith, c.requires.driven.1.few), omega (arith, c.requires.driven.1.few), side_few c.args.kind c.args.turned n m c.args.k c.requires.driven.1.few c.requires.kept.1)

pub row_costs-requires-clause-kept : goal.row_costs-requires-clause-kept
row_costs-requires-clause-kept c =
    let n = length c.args.side.now.list.now in
    let m = length c.args.other.now in
    let lying = rw (← c.side_of-row.ensures) at (side_lies c.args.kind c.args.turned n m c.args.k c.requires.driven.1.few
    c.requires.kept.1) in
    (c.requires.kept.0, row_part _ lying.lies lying.fewer)

pub row_costs-requires-clause-count_in_bounds : goal.row_costs-requires-clause-count_in_bounds
row_costs-requires-clause-count_in_bounds c =
    let n = length c.args.side.now.list.now in
    let m = length c.args.other.now in
    let lying = rw (← c.side_of-row.ensures) at (side_lies c.args.kind c.args.turned n m c.args.k c.requires.driven.1.few
    c.requires.kept.1) in
    (omega (arith, lying.fewer, lying.wide, c.requires.other_in_bounds.0), omega (arith, lying.fewer, lying.wide, c.requires.other_in_bounds.1))

pub extend-requires : goal.extend-requires
extend-requires c =
    let n = length c.args.side.now.list.now in
    let m = length c.args.other.now in
    let lying = rw (← c.side_of-row.ensures) at (side_lies c.args.kind c.args.turned n m c.args.k c.requires.driven.1.few
    c.requires.kept.1) in
    (omega (arith, lying.wide, c.requires.other_in_bounds.1, c.row_costs.auto.costs), lying.lies.few)

pub returns : goal.returns
returns c =
    let n = length c.args.side.now.list.now in
    let m = length c.args.other.now in
    let lying = rw (← c.side_of-row.ensures) at (side_lies c.args.kind c.args.turned n m c.args.k c.requires.driven.1.few
    c.requires.kept.1) in
    costed_row _ _ _ _ _ _ _ _ _ c.side_of-row.ensures lying.first c.row_costs.ensures c.extend.ensures
