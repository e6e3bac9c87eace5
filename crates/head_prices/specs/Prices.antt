-- What a list costs from its head on. For the searches that price many lists with one head. Assumes nothing.
use Rattle.std.specs.Prelude.{ℕ, List, Float, Option, Some, None}
use Rattle.day.specs.declared.vehicle.VehicleBreak.{VehicleBreak}
use Rattle.day.specs.declared.vehicle.RouteLimits.{RouteLimits}
use Rattle.labels.specs.Columns.{Columns}
use Rattle.labels.specs.Walk.{walk}
use Rattle.evaluation.specs.Route.{tick, home, evaluated, cost_of, effective_cost}
use Rattle.heads.specs.Head.{tour_at}
use Rattle.heads.specs.declared.Head.{Head}

-- what a list costs with no break to take, the visits behind its head given
unfoldable pub cost_from : Columns → RouteLimits → ℕ → Head → List ℕ → Float
cost_from c limits depot head others = cost_of (evaluated limits (home c depot (walk c (tick c) (tour_at head) others)))

-- the same, whether there is a break or not
unfoldable pub price_by : Option VehicleBreak → Columns → RouteLimits → ℕ → Head → List ℕ → Float
price_by None c limits depot head others = cost_from c limits depot head others
price_by (Some pause) c limits depot head others = effective_cost c limits depot others

-- the price of the list of a head and the visits behind it, or, with a break, of the whole list
abbrev pub price_from : Columns → RouteLimits → ℕ → Head → List ℕ → Float
price_from c limits depot head others = price_by limits.rest c limits depot head others
