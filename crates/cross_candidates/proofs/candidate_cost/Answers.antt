-- `candidate_cost`: a head that was lost loses the list, an empty list costs nothing, and another is driven from its head on.
use mathlib.Core.Path.{ap, ◌∙◌}
use Prim.Native.Nat.{◌≤◌}
use native.Mathlib.Omega.{arith}
use lib.ListN.{length}
use lib.Ieee.{of_bits}
use Rattle.cross_moves.specs.CrossDepot.{amount}
use Rattle.cross_moves.proofs.Stretch.{cost_none}
use Rattle.cross_candidates.proofs.Candidates.{place_there, cost_lost, price_on_lem, amount-costs, amount_none}
use Rattle.cross_candidates.proofs.candidate_cost.Goals as goal

pub returns-then-heads-from : goal.returns-then-heads-from
returns-then-heads-from c =
    c.infinite.ensures.answer
    ∙ cost_lost _ _ _ c.requires.unbroken.0 _ c.args.other.now _ _ c.args.other_from _ c.requires.from_le_to.0 c.requires.from_le_to.1 c.requires.from_le_to.3 _
    c.requires.unbroken.1 c.if-heads-from.true

pub returns-then-from-other_to-eq0 : goal.returns-then-from-other_to-eq0
unfolding of_bits
returns-then-from-other_to-eq0 c =
    cost_none _ _ _ _ _ _ c.requires.from_le_to.0 c.requires.from_le_to.1 c.requires.from_le_to.3 _ _ c.if-from-other_to-eq0.true

pub price_from-price-requires-clause-place_lt_l : goal.price_from-price-requires-clause-place_lt_l
price_from-price-requires-clause-place_lt_l c =
    let few : c.args.from ≤ length c.args.side.now.list.now = omega (arith, c.requires.from_le_to.0, c.requires.from_le_to.1) in
    let there = place_there c.args.columns.now.locations c.args.side.now.van.depot c.args.side.now.list.now c.args.from c.requires.driven.0.depot_there c.requires.driven.1.one_below few in
    (rw c.head-head.ensures there, c.requires.from_le_to.1, c.requires.from_le_to.2, c.requires.from_le_to.3)

pub returns-in_default : goal.returns-in_default
returns-in_default c =
    c.infinite-in_default.ensures.answer ∙ amount_none _ c.in_default.is
    ∙ ap amount (price_on_lem _ _ _ c.requires.unbroken.0 _ _ _ _ _ _ c.requires.from_le_to.0 c.requires.from_le_to.1 c.requires.from_le_to.3 _ c.requires.unbroken.1 _ _ c.head-head.ensures
    c.if-heads-from.false c.if-from-other_to-eq0.false c.price_from-price.ensures)

pub returns : goal.returns
returns c =
    amount-costs _ _ c.in-Some.is
    ∙ ap amount (price_on_lem _ _ _ c.requires.unbroken.0 _ _ _ _ _ _ c.requires.from_le_to.0 c.requires.from_le_to.1 c.requires.from_le_to.3 _ c.requires.unbroken.1 _ _ c.head-head.ensures
    c.if-heads-from.false c.if-from-other_to-eq0.false c.price_from-price.ensures)
