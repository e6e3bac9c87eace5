-- `price_from`: the stretch is driven from the head on, and the tail from there; where a visit can't be served, the list can't.
use native.Mathlib.Omega.{arith}
use Rattle.cross_head_prices.proofs.Prices.{part_lost, tail_lost, price_driven}
use Rattle.cross_head_prices.proofs.price_from.Goals as goal

pub drive-part-requires : goal.drive-part-requires
drive-part-requires c =
    (c.requires.place_lt_l.0, record { few = omega (arith, c.requires.driven.1.few); below = c.requires.driven.1.other_below }, c.requires.place_lt_l.2, c.requires.place_lt_l.3)

pub returns-then-part-other_to : goal.returns-then-part-other_to
returns-then-part-other_to c =
    part_lost _ _ _ _ _ _ _ _ c.drive-part.ensures _ c.if-part-other_to.true c.requires.place_lt_l.3

pub drive-whole-requires : goal.drive-whole-requires
drive-whole-requires c =
    (c.drive-part.ensures.placed, record { few = omega (arith, c.requires.driven.1.few); below = c.requires.driven.1.one_below }, c.requires.place_lt_l.1, omega arith)

pub returns-then-whole-list : goal.returns-then-whole-list
returns-then-whole-list c =
    tail_lost _ _ _ _ _ _ _ _ c.drive-part.ensures c.if-part-other_to.false _ _ _ c.drive-whole.ensures c.if-whole-list.true

pub returns : goal.returns
returns c =
    price_driven _ _ _ _ _ _ _ _ c.drive-part.ensures c.if-part-other_to.false _ _ _ c.drive-whole.ensures c.if-whole-list.false _ _ c.distance.ensures c.travel_time-back.ensures _
    c.ended_price.ensures
