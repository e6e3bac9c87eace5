-- `lists::place_of` meets its contract: the place is behind the lists passed, each of which is shorter than 65,536. Assumes nothing.
use Rattle.std.proofs.Common.{◌<◌, arith, rules, get_or-take, length-take-le}
use Rattle.lists.proofs.Tables.{start_none, start_more}
use Rattle.lists.proofs.place_of.Goals as goal

pub loop-length-init : goal.loop-length-init
loop-length-init c =
    record { bound = search rules; behind = omega (arith, start_none c.args.lengths.now) }

pub loop-length-preserved : goal.loop-length-preserved
loop-length-preserved c =
    let passed : c.loop-length.length-index < c.args.r = omega (arith, length-take-le c.args.r c.args.lengths.now c.requires.0) in
    let here = get_or-take c.args.r c.args.lengths.now c.loop-length.length-index 0 passed in
    record {
      bound = omega (arith, c.type_inv.lengths c.loop-length.length-index, here);
      behind = omega (arith, start_more c.args.lengths.now c.loop-length.length-index, here);
    }
