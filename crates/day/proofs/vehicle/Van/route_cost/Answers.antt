-- `route_cost`: the code's expression is the definition's.
use mathlib.Core.Path.{refl}
use Rattle.day.specs.Vehicle.{route_cost}
use Rattle.day.proofs.vehicle.Van.route_cost.Goals as goal

pub returns : goal.returns
unfolding route_cost
returns c =
    refl
