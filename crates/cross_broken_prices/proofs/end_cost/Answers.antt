-- `end_cost`: one arm for each case of the outcome and of the limits' test.
use mathlib.Core.Path.{sym, ◌∙◌}
use Rattle.evaluation.specs.Route.{evaluated, priced_distance}
use Rattle.cross_moves.specs.CrossDepot.{price_of, amount}
use Rattle.cross_broken_prices.proofs.end_cost.Goals as goal

pub returns-in_default : goal.returns-in_default
unfolding amount price_of evaluated
returns-in_default c =
    rw c.in_default.is c.infinite.ensures.answer

pub returns-then-allow : goal.returns-then-allow
unfolding amount price_of evaluated priced_distance
returns-then-allow c =
    rw (c.in-Some.is, sym c.allow.ensures ∙ c.if-allow.true) c.route_cost.ensures

pub returns : goal.returns
unfolding amount price_of evaluated
returns c =
    rw (c.in-Some.is, sym c.allow.ensures ∙ c.if-allow.false) c.infinite-2.ensures.answer
