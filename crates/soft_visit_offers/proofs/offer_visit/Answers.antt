-- `offer_visit`: each of its ends is one case of the definition.
use native.Mathlib.Omega.{arith}
use Rattle.soft_visit_offers.proofs.Offering.{refused_as, fails_as, offered_as}
use Rattle.soft_visit_offers.proofs.offer_visit.Goals as goal

pub offset_bounds-giver-position : goal.offset_bounds-giver-position
offset_bounds-giver-position c =
    omega (arith, c.requires.two_of.1, c.requires.two_of.0.gives.few)

pub boxes_of-requires-clause-visit_in_bounds : goal.boxes_of-requires-clause-visit_in_bounds
boxes_of-requires-clause-visit_in_bounds c =
    let below = c.requires.two_of.0.gives.below _ c.requires.two_of.1 in
    omega (arith, c.from.ensures, below, c.requires.loaded.0.column)

pub boxes_of-requires-clause-pos_value : goal.boxes_of-requires-clause-pos_value
boxes_of-requires-clause-pos_value c =
    let below = c.requires.two_of.0.gives.below _ c.requires.two_of.1 in
    rw c.from.ensures (c.requires.loaded.0.in_range _ below)

pub overflow_add-load : goal.overflow_add-load
overflow_add-load c =
    omega (arith, c.boxes_of.ensures.1, c.requires.known.1)

pub returns-then-load-setup : goal.returns-then-load-setup
returns-then-load-setup c =
    refused_as _ _ c.args.setup c.args.giver.now c.args.receiver.now c.args.pair c.args.best
    c.args.position _ _ c.from.ensures c.boxes_of.ensures.0
    c.if-load-setup.true

pub giving_delta-giving-requires-clause-in_bounds : goal.giving_delta-giving-requires-clause-in_bounds
giving_delta-giving-requires-clause-in_bounds c =
    (c.requires.loaded.1, c.requires.two_of.0.gives, c.requires.two_of.1)

pub returns-then-not-is_finite : goal.returns-then-not-is_finite
returns-then-not-is_finite c =
    fails_as _ _ c.args.setup c.args.giver.now c.args.receiver.now c.args.pair c.args.best
    c.args.position _ _ c.from.ensures c.boxes_of.ensures.0
    _ c.giving_delta-giving.ensures _ c.is_finite.ensures.answer (c.if-not-is_finite.true)

pub best_place-requires-clause-in_bounds : goal.best_place-requires-clause-in_bounds
best_place-requires-clause-in_bounds c =
    omega (arith, c.giving_delta-giving.auto.buffer, c.requires.loaded.1)

pub best_place-requires-clause-visits : goal.best_place-requires-clause-visits
best_place-requires-clause-visits c =
    (c.requires.two_of.0.takes, c.requires.two_of.0.room_there, c.requires.two_of.0.gives.below _ c.requires.two_of.1)

pub returns : goal.returns
returns c =
    offered_as _ _ c.args.setup c.args.giver.now c.args.receiver.now c.args.pair c.args.best
    c.args.position _ _ c.from.ensures c.boxes_of.ensures.0
    _ c.giving_delta-giving.ensures _ c.is_finite.ensures.answer (c.if-not-is_finite.false) c.if-load-setup.false _ _
    c.fixed_if-paid.ensures c.best_place.ensures
