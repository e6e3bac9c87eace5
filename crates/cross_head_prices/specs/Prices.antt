-- What a list costs with its van where its head is driven. For src/. Assumes nothing.
use Rattle.std.specs.Prelude.{cond, List, ℕ, Float, Option, Some, None}
use Rattle.numbers.specs.Operations.{◌⊕◌}
use Rattle.day.specs.Vehicle.{route_cost, allows}
use Rattle.day.specs.declared.vehicle.Van.{Van}
use Rattle.day.specs.declared.vehicle.RouteLimits.{RouteLimits}
use Rattle.labels.specs.Columns.{Columns}
use Rattle.labels.specs.Walk.{walk}
use Rattle.evaluation.specs.Route.{tick, home, evaluated}
use Rattle.labels.specs.declared.label.Label.{Label}
use Rattle.heads.specs.Head.{tour_at}
use Rattle.heads.specs.declared.Head.{Head}
use Rattle.cross_moves.specs.CrossDepot.{price_of}

-- what a list costs that ends with this label
unfoldable pub ended_price : Van → RouteLimits → Label → Float → Float → Option Float
ended_price van limits label distance back =
    cond (allows limits distance (label.time ⊕ back)) (Some (route_cost van (distance ⊕ label.lateness_cost))) None

-- what a list costs whose head is driven, with a part and then the tail behind it
unfoldable pub price_on : Columns → Van → RouteLimits → Head → List ℕ → List ℕ → Option Float
price_on c van limits head part tail =
    price_of van (evaluated limits (home c van.depot (walk c (tick c) (walk c (tick c) (tour_at head) part) tail)))
