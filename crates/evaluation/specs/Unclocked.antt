-- A list that needs no clock: no visit has a window, and the van sets no limit but one of distance. Then the distance decides. Assumes nothing.
use Rattle.std.specs.Prelude.{ℕ, ◌+◌, ◌<◌, ◌≤◌, ◌≡◌, refl, Bool, true, false, cond, ◌&&◌, length, get_or, drop, Float, Option, Some, None, is_none}
use Rattle.std.proofs.Common.{add-one, sym, ◌∙◌, true≢false, drop_of_length-le}
use Rattle.std.proofs.Math.Path.{ap}
use mathlib.Core.List.{List, [], ◌∷◌}
use Rattle.std.proofs.Math.Seq.{drop-cons}
use Rattle.std.specs.Float.{nan}
use Rattle.numbers.specs.Operations.{◌⊕◌, zero64}
use Rattle.tests.specs.Pick.{picked, other}
use Rattle.day.specs.Day.{bit1}
use Rattle.day.specs.Matrix.{leg}
use Rattle.day.specs.Customer.{window_at}
use Rattle.day.specs.Vehicle.{allows, keeps, is_unlimited}
use Rattle.day.specs.declared.customer.Window.{Window}
use Rattle.day.specs.declared.customer.Window.TheVariants.{Open}
use Rattle.day.specs.declared.vehicle.VehicleBreak.{VehicleBreak}
use Rattle.day.specs.declared.vehicle.RouteLimits.{RouteLimits}
use Rattle.labels.specs.Columns.{Columns, stop_of, leg_in, travel_in}
use Rattle.labels.specs.Walk.{tour_of, walk}
use Rattle.labels.specs.Label.{at_start, in_time, served_in, served, served_from}
use Rattle.break_clock.specs.Schedule.{ended}
use Rattle.evaluation.specs.Route.{tick, end_untaken, home, unbroken, outcome, allowed, feasible}
use Rattle.labels.specs.declared.label.Label.{Label}

-- this distance so far, from the place where the van is through the rest of the list to the depot, unless a visit has a window
unfoldable pub onward_unclocked : ℕ → List ℕ → List Float → ℕ → List ℕ → Float → ℕ → Option Float
onward_unclocked l flags distances depot [] distance place = Some (distance ⊕ leg l distances place depot)
onward_unclocked l flags distances depot (visit ∷ rest) distance place =
    cond (bit1 (get_or flags visit 0)) None (onward_unclocked l flags distances depot rest (distance ⊕ leg l distances place visit) visit)

-- the distance of a list, unless a visit has a window
unfoldable pub unclocked : ℕ → List ℕ → List Float → ℕ → List ℕ → Option Float
unclocked l flags distances depot list = onward_unclocked l flags distances depot list zero64 depot

-- no break, and no limit but one of distance
unfoldable pub clockless : RouteLimits → Bool
clockless limits = is_unlimited (record { max_distance = None; max_duration = limits.max_duration; rest = limits.rest })

-- ---- laws: what a loop over the list knows at each turn

module _ (l : ℕ) (flags : List ℕ) (distances : List Float) (depot : ℕ) (list : List ℕ) (i : ℕ) (distance : Float) (place : ℕ) where
  unclocked_step : i < length list →
      onward_unclocked l flags distances depot (drop i list) distance place
      ≡ cond (bit1 (get_or flags (get_or list i 0) 0)) None
      (onward_unclocked l flags distances depot (drop (i + 1) list) (distance ⊕ leg l distances place (get_or list i 0)) (get_or list i 0))
  unfolding onward_unclocked
  unclocked_step h = rw (add-one, drop-cons list i 0 h)

  -- the visit at i has a window
  pub unclocked_stops : i < length list → bit1 (get_or flags (get_or list i 0) 0) ≡ true →
      None ≡ onward_unclocked l flags distances depot (drop i list) distance place
  unclocked_stops h e = picked _ _ _ _ e refl ∙ sym (unclocked_step h)

  -- one visit more
  pub unclocked_turn : (x : Float) → i < length list → bit1 (get_or flags (get_or list i 0) 0) ≡ false → x ≡ leg l distances place (get_or list i 0) →
      onward_unclocked l flags distances depot (drop (i + 1) list) (distance ⊕ x) (get_or list i 0)
      ≡ onward_unclocked l flags distances depot (drop i list) distance place
  unclocked_turn x h e f = rw f (other _ _ _ _ e refl ∙ sym (unclocked_step h))

  -- the return
  pub unclocked_end : (x : Float) → length list ≤ i → x ≡ leg l distances place depot →
      Some (distance ⊕ x) ≡ onward_unclocked l flags distances depot (drop i list) distance place
  unfolding onward_unclocked
  unclocked_end x h e = rw (drop_of_length-le list h, e)

-- ---- laws: then the distance decides

abbrev is_free : Option Float → Bool
is_free None = false
is_free (Some x) = true

abbrev distance_in : Option Float → Float
distance_in None = zero64
distance_in (Some x) = x

-- what was not windowed goes on
free_step : {A : Type 0} (b : Bool) (deeper : Option Float) (x : Float) → cond b None deeper ≡ Some x → (b ≡ false → deeper ≡ Some x → A) → A
free_step true deeper x e k = absurd (true≢false (sym (ap is_free e)))
free_step false deeper x e k = k refl e

-- without a limit any duration is kept
keeps_any : (limit : Option Float) (a b : Float) → is_none limit ≡ true → keeps limit a ≡ keeps limit b
unfolding keeps
keeps_any None a b h = refl
keeps_any (Some most) a b h = absurd (true≢false (sym h))

both_true : (a b : Bool) → a && b ≡ true → (a ≡ true) × (b ≡ true)
both_true true b h = (refl, h)
both_true false b h = absurd (true≢false (sym h))

unbroken_if : (c : Columns) (rest : Option VehicleBreak) (depot : ℕ) (list : List ℕ) → is_none rest ≡ true → outcome c rest depot list ≡ unbroken c depot list
unfolding outcome
unbroken_if c None depot list h = refl
unbroken_if c (Some rest) depot list h = absurd (true≢false (sym h))

-- a visit without a window is served
abbrev passed : Columns → Label → ℕ → ℕ → Label
passed c label place visit = record {
  time = label.time ⊕ travel_in c place visit ⊕ get_or c.service visit nan;
  lateness = label.lateness;
  lateness_cost = label.lateness_cost;
  position = label.position;
  start = label.start;
}

open_at : (c : Columns) (visit : ℕ) → bit1 (get_or c.flags visit 0) ≡ false → window_at c.flags c.ready c.due c.penalty visit ≡ Open
unfolding window_at
open_at c visit p = sym (other _ _ _ _ p refl)

tick_open : (c : Columns) (label : Label) (place visit : ℕ) → bit1 (get_or c.flags visit 0) ≡ false →
    tick c (Some label) place visit ≡ Some (passed c label place visit)
unfolding served_from served stop_of served_in in_time
tick_open c label place visit p =
    ap (λ (w : Window). served_in w label (label.time ⊕ travel_in c place visit) (get_or c.service visit nan)) (open_at c visit p)

module _ (c : Columns) (limits : RouteLimits) (depot : ℕ) (x : Float) (none : is_none limits.max_duration ≡ true) where
  free_allowed : (list : List ℕ) (label : Label) (distance : Float) (place : ℕ) →
      onward_unclocked c.l c.flags c.distances depot list distance place ≡ Some x →
      allows limits x zero64 ≡ allowed limits (home c depot (walk c (tick c) (tour_of distance (Some label) place) list))
  unfolding onward_unclocked home end_untaken ended allowed allows
  free_allowed [] label distance place e =
      ap (λ (y : Float). keeps limits.max_distance y && keeps limits.max_duration zero64) (sym (ap distance_in e))
      ∙ ap (λ (b : Bool). keeps limits.max_distance (distance ⊕ leg_in c place depot) && b)
      (keeps_any limits.max_duration zero64 (label.time ⊕ travel_in c place depot) none)
  free_allowed (visit ∷ rest) label distance place e =
      free_step (bit1 (get_or c.flags visit 0)) _ x e (λ p f.
      free_allowed rest (passed c label place visit) (distance ⊕ leg_in c place visit) visit f
      ∙ ap (λ (k : Option Label). allowed limits (home c depot (walk c (tick c) (tour_of (distance ⊕ leg_in c place visit) k visit) rest)))
      (sym (tick_open c label place visit p)))

-- where nothing but the distance can fail, the distance decides
pub feasible-unclocked : (c : Columns) (limits : RouteLimits) (depot : ℕ) (list : List ℕ) (x : Float) → clockless limits ≡ true →
    unclocked c.l c.flags c.distances depot list ≡ Some x → allows limits x zero64 ≡ feasible c limits depot list
unfolding feasible unbroken unclocked clockless is_unlimited
feasible-unclocked c limits depot list x h e =
    let parts = both_true (is_none limits.max_duration) (is_none limits.rest) h in
    free_allowed c limits depot x parts.0 list at_start zero64 depot e
    ∙ ap (allowed limits) (sym (unbroken_if c limits.rest depot list parts.1))
