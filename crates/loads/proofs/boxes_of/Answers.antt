-- `boxes_of`: a demand isn't below 0, so that it is the number it is cast to.
use borrow.Author.Rules.{rules}
use lib.IntN.{pos}
use lib.ListN.{get_or}
use mir.Syntax.{w32}
use mir.ValLaws.{to_z-of_z}
use borrow.Author.Rules.{sfits_of}
use mathlib.Core.Path.{refl}
use Rattle.loads.specs.Loads.{boxes_of}
use Rattle.loads.proofs.Boxes.{demand_plain}
use Rattle.loads.proofs.boxes_of.Goals as goal

pub overflow_cast-result : goal.overflow_cast-result
overflow_cast-result c =
    let z = get_or c.args.demand.now c.args.visit (pos 0) in
    let e = to_z-of_z w32 z (sfits_of c.boxes-1.given) in
    let t = demand_plain z c.requires.pos_value in
    let h = t.1 in
    rw e (t.0, search rules)

pub returns : goal.returns
unfolding boxes_of
returns c =
    let z = get_or c.args.demand.now c.args.visit (pos 0) in
    let e = to_z-of_z w32 z (sfits_of c.boxes-1.given) in
    rw e (refl, (demand_plain z c.requires.pos_value).1)
