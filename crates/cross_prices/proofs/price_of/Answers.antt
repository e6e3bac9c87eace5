-- `price_of`: one arm for each case.
use Rattle.cross_moves.specs.CrossDepot.{price_of}
use Rattle.cross_prices.proofs.price_of.Goals as goal

pub returns-in-None : goal.returns-in-None
unfolding price_of
returns-in-None c =
    rw c.in-None.is

pub returns-in-Some : goal.returns-in-Some
unfolding price_of
returns-in-Some c =
    rw (c.in-Some.is, c.route_cost.ensures, c.priced_distance.ensures)
