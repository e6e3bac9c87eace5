-- What each entry that changes nothing answers, as one function of what it is lent. Assumes nothing.
use Rattle.std.specs.Prelude.{ℕ, Bool, List, [], Float, Option, Result, Ok}
use Rattle.day.specs.Day.{Day}
use Rattle.day.specs.declared.refusal.Refusal.{Refusal}
use Rattle.day.specs.declared.vehicle.Van.{Van}
use Rattle.numbers.specs.Floor.{gain_floor}
use Rattle.day.specs.Matrix.{scale_of, symmetric}
use Rattle.day.specs.Customer.{num_depots}
use Rattle.day.specs.Vehicle.{fixed_cost_in_distance, limits_of}
use Rattle.lists.specs.Table.{list_of}
use Rattle.labels.specs.Columns.{columns_of}
use Rattle.evaluation.specs.Distance.{route_distance}
use Rattle.evaluation.specs.Route.{outcome, feasible, eval}
use Rattle.evaluation.specs.declared.route.RouteEval.{RouteEval}
use Rattle.break_clock.specs.declared.Scheduled.{Scheduled}
use Rattle.refusals.specs.Refusal.{refusal, day_and_van_refusal}
use Rattle.refusals.specs.Answered.{unless_refused, refused_as}
use Rattle.checks.specs.declared.table.Table.{Table}

-- `list_of`: the list asked for, and nothing where it is refused
unfoldable pub list_answer : Day → Van → List ℕ → List ℕ → ℕ → List ℕ
list_answer d van visits lengths list = unless_refused (refusal d van visits lengths list) (λ n. []) (list_of visits lengths list)

-- `route_distance`: the distance of the list asked for
unfoldable pub distance_answer : Day → Van → List ℕ → List ℕ → ℕ → Result Float Refusal
distance_answer d van visits lengths list =
    unless_refused (refusal d van visits lengths list) refused_as (Ok (route_distance d.l d.distances van.depot (list_of visits lengths list)))

-- `route_feasible`: whether the list asked for passes
unfoldable pub feasible_answer : Day → Van → List ℕ → List ℕ → ℕ → Result Bool Refusal
feasible_answer d van visits lengths list =
    unless_refused (refusal d van visits lengths list) refused_as
    (Ok (feasible (columns_of d) (limits_of van) van.depot (list_of visits lengths list)))

-- 01: 'route_eval answers a case with distance, duration, lateness and its cost, or a case that the list fails': what the list asked for comes to
unfoldable pub eval_answer : Day → Van → List ℕ → List ℕ → ℕ → Result (Option RouteEval) Refusal
eval_answer d van visits lengths list =
    unless_refused (refusal d van visits lengths list) refused_as
    (Ok (eval (columns_of d) (limits_of van) van.depot (list_of visits lengths list)))

-- `schedule`: the schedule of the list asked for, with the van's break where it has one
unfoldable pub schedule_answer : Day → Van → List ℕ → List ℕ → ℕ → Result (Option Scheduled) Refusal
schedule_answer d van visits lengths list =
    unless_refused (refusal d van visits lengths list) refused_as
    (Ok (outcome (columns_of d) (limits_of van).rest van.depot (list_of visits lengths list)))

-- `table_of`: what 01's modules 1, 2 and 4 work out before the first move: scale, floor, symmetry, fixed cost in distance, number of depots
unfoldable pub table_answer : Day → Van → Result Table Refusal
table_answer d van =
    unless_refused (day_and_van_refusal d van) refused_as
    (Ok (record {
      scale = scale_of d.distances;
      floor = gain_floor (scale_of d.distances);
      symmetric = symmetric d.l d.distances;
      fixed = fixed_cost_in_distance van;
      depots = num_depots d.flags;
    }))
