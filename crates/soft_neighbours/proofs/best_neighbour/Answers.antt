-- `best_neighbour`. The invariant: what is chosen from here on is what the whole scan chooses, and the head is driven. The measure: the neighbours left.
use mathlib.Core.Path.{refl, ◌∙◌}
use Rattle.evaluation.specs.Route.{effective_cost}
use Rattle.heads.proofs.Heads.{depot_driven}
use Rattle.soft_neighbours.proofs.Passes.{scan_starts, scan_turns, scan_ends, inside_at, fewer}
use Rattle.labels.specs.Lent.{lent}
use Rattle.soft_neighbours.proofs.best_neighbour.Goals as goal

pub first-here-requires : goal.first-here-requires
first-here-requires g c =
    c.requires.depot_lt_l.1.few

pub loop-here-init : goal.loop-here-init
loop-here-init g c =
    (scan_starts _ _ _ _ _ _ c.below-best.ensures c.first-here.ensures.1, refl, rw c.at_depot-head.ensures (depot_driven _ _ _ _ c.requires.depot_lt_l.0))

pub price_of-priced-requires-clause-list_in_bounds : goal.price_of-priced-requires-clause-list_in_bounds
price_of-priced-requires-clause-list_in_bounds g c =
    let inside = inside_at g.N.Neighbourhood.place _ _ _ c.in-Some.is c.loop-here.invariant.0.inside in
    (rw c.loop-here.invariant.1 c.requires.list_in_bounds, inside)

pub after-here-requires : goal.after-here-requires
after-here-requires g c =
    (c.requires.depot_lt_l.1.few, inside_at g.N.Neighbourhood.place _ _ _ c.in-Some.is c.loop-here.invariant.0.inside)

pub loop-here-smaller : goal.loop-here-smaller
loop-here-smaller g c =
    fewer g.N.Neighbourhood.place _ _ _ _ c.in-Some.is c.after-here.ensures

pub loop-here-preserved : goal.loop-here-preserved
loop-here-preserved g c =
    let scanning = scan_turns _ _ _ _ _ _ _ c.loop-here.invariant.0 _ _ _ _ c.in-Some.is c.price_of-priced.ensures.0 c.or-best.ensures c.after-here.ensures in
    (scanning, c.price_of-priced.auto.buffer ∙ c.loop-here.invariant.1, c.price_of-priced.ensures.1)

pub returns : goal.returns
returns g c =
    let day = lent c.args.columns.now in
    let price = effective_cost day c.args.limits c.args.depot in
    scan_ends g.N.Neighbourhood.place g.N.Neighbourhood.which price c.args.floor c.args.list.now _ _ _ _ c.requires.cost_value c.first-here.ensures.0
    c.loop-here.invariant.0 c.in_default.is
