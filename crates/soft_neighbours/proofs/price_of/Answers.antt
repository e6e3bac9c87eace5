-- `price_of`: the part of the buffer that is priced is the neighbour behind the head that it shares with the list.
use native.Mathlib.Omega.{arith}
use mathlib.Core.Path.{ap, ◌∙◌}
use Rattle.head_prices.specs.Prices.{price_from}
use Rattle.head_prices.proofs.Prices.{from_head}
use Rattle.neighbours.proofs.Layouts.{part_is, made_visits, visits_behind, shares}
use Rattle.soft_neighbours.proofs.price_of.Goals as goal

pub layout-p-requires : goal.layout-p-requires
layout-p-requires g c =
    (c.requires.depot_lt_l.1.few, c.requires.list_in_bounds.1)

pub reach-head-requires-clause-depot_lt_l : goal.reach-head-requires-clause-depot_lt_l
reach-head-requires-clause-depot_lt_l g c =
    (c.requires.depot_lt_l.0, c.requires.depot_lt_l.1, omega (arith, c.layout-p.ensures.within.b_c, c.layout-p.ensures.within.c_d, c.layout-p.ensures.within.d_n))

pub reach-head-requires-clause-driven : goal.reach-head-requires-clause-driven
reach-head-requires-clause-driven g c =
    c.requires.driven

pub lay_out-requires-clause-list_in_bounds : goal.lay_out-requires-clause-list_in_bounds
lay_out-requires-clause-list_in_bounds g c =
    c.requires.list_in_bounds.0

pub lay_out-requires-clause-cut_in : goal.lay_out-requires-clause-cut_in
lay_out-requires-clause-cut_in g c =
    (c.layout-p.ensures.within, c.reach-head.ensures.visits_le_to)

pub overflow_sub-count : goal.overflow_sub-count
overflow_sub-count g c =
    omega (arith, c.reach-head.ensures.driven_2.few)

pub slice_bounds-price_from-end : goal.slice_bounds-price_from-end
slice_bounds-price_from-end g c =
    omega (arith, c.lay_out.auto.buffer, c.requires.list_in_bounds.0)

pub price_from-price-requires : goal.price_from-price-requires
price_from-price-requires g c = (
  c.requires.depot_lt_l.0,
  c.reach-head.ensures.driven_2.placed,
  rw (part_is _ _ _ _ _ _ c.layout-p.ensures c.lay_out.ensures) (visits_behind _ c.reach-head.result.visits _ (made_visits _ _ _ _ _ c.layout-p.ensures c.requires.depot_lt_l.1)),
)

pub returns : goal.returns
returns g c = (
  c.price_from-price.ensures ∙ ap (price_from _ _ _ _) (part_is _ _ _ _ _ _ c.layout-p.ensures c.lay_out.ensures)
      ∙ from_head _ _ _ _ _ _ c.reach-head.ensures.driven_2 (shares _ _ _ _ c.layout-p.ensures c.reach-head.ensures.visits_le_to),
  c.reach-head.ensures.driven_2,
)
