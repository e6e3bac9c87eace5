-- evaluation/mod.rs: whether a list passes, what it costs, and whether a search has to ask. Assumes nothing.
use Rattle.std.specs.Prelude.{ℕ, ◌+◌, ◌<◌, ◌≤◌, ◌≡◌, List, length, get_or, drop, Bool, false, cond, not, ◌||◌, Float, Option, Some, None}
use Rattle.std.proofs.Common.{sym, ap, ◌∙◌}
use Rattle.std.specs.Float.{inf}
use Rattle.numbers.specs.Operations.{◌⊕◌, zero64}
use Rattle.day.specs.Customer.{has_time_windows}
use Rattle.day.specs.Vehicle.{allows, is_unlimited}
use Rattle.day.specs.declared.vehicle.VehicleBreak.{VehicleBreak}
use Rattle.day.specs.declared.vehicle.RouteLimits.{RouteLimits}
use Rattle.labels.specs.Columns.{Columns, stop_at, leg_in, travel_in}
use Rattle.labels.specs.Walk.{Tour, tour_of, walk, walk_turn, walk_end, walk_lost}
use Rattle.labels.specs.Label.{at_start, served, served_from}
use Rattle.break_clock.specs.Schedule.{ended, scheduled}
use Rattle.labels.specs.declared.stop.Stop.{Stop}
use Rattle.labels.specs.declared.label.Label.{Label}
use Rattle.break_clock.specs.declared.Scheduled.{Scheduled}
use Rattle.evaluation.specs.declared.route.RouteEval.{RouteEval}

-- the clock with no break to take: one label
abbrev pub tick : Columns → Option Label → ℕ → ℕ → Option Label
tick c reached place visit = served_from reached (travel_in c place visit) (stop_at c visit)

-- a list that ends here with no break to take, if it got here
unfoldable pub end_untaken : Option Label → Float → Float → Option Scheduled
end_untaken None distance back = None
end_untaken (Some label) distance back = ended label None distance back

-- a list driven without a break, back at the depot
unfoldable pub home : Columns → ℕ → Tour (Option Label) → Option Scheduled
home c depot t = end_untaken t.clock (t.distance ⊕ leg_in c t.place depot) (travel_in c t.place depot)

-- the clock of a list with no break to take
unfoldable pub unbroken : Columns → ℕ → List ℕ → Option Scheduled
unbroken c depot list = home c depot (walk c (tick c) (tour_of zero64 (Some at_start) depot) list)

-- the clock of a list, with the break where there is one
unfoldable pub outcome : Columns → Option VehicleBreak → ℕ → List ℕ → Option Scheduled
outcome c None depot list = unbroken c depot list
outcome c (Some rest) depot list = scheduled c rest depot list

-- it is served, and both limits are kept
unfoldable pub allowed : RouteLimits → Option Scheduled → Bool
allowed limits None = false
allowed limits (Some s) = allows limits s.distance s.duration

-- what it comes to, if it is allowed
unfoldable pub evaluated : RouteLimits → Option Scheduled → Option RouteEval
evaluated limits None = None
evaluated limits (Some s) =
    cond (allows limits s.distance s.duration)
    (Some (record { distance = s.distance; duration = s.duration; lateness = s.lateness; lateness_cost = s.lateness_cost }))
    None

-- 01, 6: `route_feasible`
unfoldable pub feasible : Columns → RouteLimits → ℕ → List ℕ → Bool
feasible c limits depot list = allowed limits (outcome c limits.rest depot list)

-- 01, 6: `route_eval` 'answers a case with distance, duration, lateness and its cost, or a case that the list fails'
unfoldable pub eval : Columns → RouteLimits → ℕ → List ℕ → Option RouteEval
eval c limits depot list = evaluated limits (outcome c limits.rest depot list)

-- `priced_distance`: the distance plus the lateness cost
unfoldable pub priced_distance : RouteEval → Float
priced_distance e = e.distance ⊕ e.lateness_cost

-- infinite where the list fails
unfoldable pub cost_of : Option RouteEval → Float
cost_of None = inf false
cost_of (Some e) = priced_distance e

-- `effective_cost`: what a search with soft windows minimises
unfoldable pub effective_cost : Columns → RouteLimits → ℕ → List ℕ → Float
effective_cost c limits depot list = cost_of (eval c limits depot list)

-- `route_checks_needed`: a location has a window, or the van sets a limit or has a break
unfoldable pub checks_needed : List ℕ → RouteLimits → Bool
checks_needed flags limits = has_time_windows flags || not (is_unlimited limits)

-- ---- laws

-- a check asks the limits of the clock with the van's break, whichever it is
pub feasible_by : (c : Columns) (limits : RouteLimits) (depot : ℕ) (list : List ℕ) (rest : Option VehicleBreak) → limits.rest ≡ rest →
    allowed limits (outcome c rest depot list) ≡ feasible c limits depot list
unfolding feasible
feasible_by c limits depot list rest e = ap (λ r. allowed limits (outcome c r depot list)) (sym e)

-- and so an evaluation
pub eval_by : (c : Columns) (limits : RouteLimits) (depot : ℕ) (list : List ℕ) (rest : Option VehicleBreak) → limits.rest ≡ rest →
    evaluated limits (outcome c rest depot list) ≡ eval c limits depot list
unfolding eval
eval_by c limits depot list rest e = ap (λ r. evaluated limits (outcome c r depot list)) (sym e)

-- what one visit makes of a label
pub tick_is : (c : Columns) (label : Label) (place visit : ℕ) (travel : Float) (stop : Stop) (reached next : Option Label) →
    travel ≡ travel_in c place visit → stop ≡ stop_at c visit → reached ≡ served label travel stop → reached ≡ next →
    next ≡ tick c (Some label) place visit
unfolding served_from
tick_is c label place visit travel stop reached next e f g h = sym h ∙ g ∙ rw (e, f)

-- a visit that is missed leaves the rest missed
pub stays_missed : (c : Columns) (reached : Option Label) (place visit : ℕ) → reached ≡ None → tick c reached place visit ≡ None
unfolding served_from
stays_missed c reached place visit h = rw h

-- one visit more
pub unbroken_turns : (c : Columns) (list : List ℕ) (i : ℕ) (label next : Label) (distance x : Float) (place : ℕ) → i < length list →
    x ≡ leg_in c place (get_or list i 0) → Some next ≡ tick c (Some label) place (get_or list i 0) →
    walk c (tick c) (tour_of (distance ⊕ x) (Some next) (get_or list i 0)) (drop (i + 1) list)
    ≡ walk c (tick c) (tour_of distance (Some label) place) (drop i list)
unbroken_turns c list i label next distance x place h e f = walk_turn c (tick c) list i distance x (Some label) (Some next) place h e f

module _ (c : Columns) (depot : ℕ) where
  -- and the list can't be served
  pub home_missed : (t : Tour (Option Label)) → t.clock ≡ None → None ≡ home c depot t
  unfolding home end_untaken
  home_missed t h = rw h

  module _ (list : List ℕ) (i : ℕ) (label : Label) (distance : Float) (place : ℕ) where
    -- the visit at i is missed
    pub unbroken_stops : i < length list → None ≡ tick c (Some label) place (get_or list i 0) →
        None ≡ home c depot (walk c (tick c) (tour_of distance (Some label) place) (drop i list))
    unbroken_stops h e =
        home_missed _ (walk_lost c (tick c) list i (λ (k : Option Label). k ≡ None) (stays_missed c) (tour_of distance (Some label) place) h (sym e))

    -- no visit is left: the return
    pub unbroken_ends : (x back : Float) → length list ≤ i → x ≡ leg_in c place depot → back ≡ travel_in c place depot →
        ended label None (distance ⊕ x) back ≡ home c depot (walk c (tick c) (tour_of distance (Some label) place) (drop i list))
    unfolding home end_untaken
    unbroken_ends x back h e f = rw (e, f) (ap (home c depot) (walk_end c (tick c) list i (tour_of distance (Some label) place) h))

  -- the walk starts at the depot
  pub unbroken_is : (list : List ℕ) (label : Label) (t : Tour (Option Label)) → label ≡ at_start →
      t ≡ walk c (tick c) (tour_of zero64 (Some label) depot) list → home c depot t ≡ unbroken c depot list
  unfolding unbroken
  unbroken_is list label t e f = rw (f, e)
