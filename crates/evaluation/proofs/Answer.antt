-- `route_eval` has an answer exactly where `route_feasible` is true: both ask the limits of one and the same clock. Assumes nothing.
use Prim.Native.Nat.{ℕ}
use mathlib.Core.Path.{◌≡◌, refl}
use mathlib.Core.List.{List}
use mathlib.Core.Bool.{Bool, true, false, cond}
use Rattle.std.specs.Prelude.{Option, Some, None}
use Rattle.day.specs.Vehicle.{allows}
use Rattle.day.specs.declared.vehicle.RouteLimits.{RouteLimits}
use Rattle.labels.specs.Columns.{Columns}
use Rattle.evaluation.specs.Route.{allowed, evaluated, outcome, feasible, eval}
use Rattle.break_clock.specs.declared.Scheduled.{Scheduled}
use Rattle.evaluation.specs.declared.route.RouteEval.{RouteEval}

-- there is an answer
abbrev pub is_passing : Option RouteEval → Bool
is_passing None = false
is_passing (Some e) = true

picks : (b : Bool) (e : RouteEval) → b ≡ is_passing (cond b (Some e) None)
picks true e = refl
picks false e = refl

allowed_is : (limits : RouteLimits) (o : Option Scheduled) → allowed limits o ≡ is_passing (evaluated limits o)
unfolding allowed evaluated
allowed_is limits None = refl
allowed_is limits (Some s) = picks (allows limits s.distance s.duration) _

-- an answer exactly where the check passes
pub feasible_is : (c : Columns) (limits : RouteLimits) (depot : ℕ) (list : List ℕ) → feasible c limits depot list ≡ is_passing (eval c limits depot list)
unfolding feasible eval
feasible_is c limits depot list = allowed_is limits (outcome c limits.rest depot list)
