-- `priced_distance`: the definition.
use mathlib.Core.Path.{refl}
use Rattle.evaluation.specs.Route.{priced_distance}
use Rattle.evaluation.proofs.route.RouteEval.priced_distance.Goals as goal

pub returns : goal.returns
unfolding priced_distance
returns c =
    refl
