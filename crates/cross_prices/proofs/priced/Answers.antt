-- `priced`: an empty list costs nothing, another what its evaluation says.
use lib.Ieee.{of_bits}
use Rattle.cross_prices.proofs.Stretch.{priced_none, priced_some}
use Rattle.cross_prices.proofs.priced.Goals as goal

pub returns-then-list-eq0 : goal.returns-then-list-eq0
unfolding of_bits
returns-then-list-eq0 c =
    priced_none _ _ _ c.if-list-eq0.true

pub route_eval-evaluation-requires : goal.route_eval-evaluation-requires
route_eval-evaluation-requires c =
    (c.requires.0.depot_there, c.requires.1)

pub returns : goal.returns
returns c =
    priced_some _ _ _ _ _ _ c.if-list-eq0.false c.of-limits.ensures c.route_eval-evaluation.ensures c.price_of.ensures
