-- A check depends only on the visits' stops and the legs driven, and a stop only on the values whose flags are on:
-- two days that agree there give the same answers, by induction over the walk. Assumes nothing.
use Prim.Native.Nat.{ℕ, suc, ◌<◌, ◌≤◌, zero-le, suc-le-suc}
use mathlib.Core.Path.{◌≡◌, refl, ap, ◌∙◌}
use mathlib.Core.List.{List, [], ◌∷◌}
use mathlib.Core.Bool.{Bool, true, false, cond}
use lib.ListN.{length, get_or}
use lib.Ieee.{Float, nan}
use Rattle.std.specs.Prelude.{Option, Some, None}
use Rattle.numbers.specs.Operations.{◌⊕◌, zero64}
use Rattle.day.specs.Day.{bit1, bit2}
use Rattle.day.specs.Customer.{window_at}
use Rattle.day.specs.declared.customer.Window.{Window}
use Rattle.day.specs.declared.customer.Window.TheVariants.{Open, Hard, Soft}
use Rattle.day.specs.declared.vehicle.VehicleBreak.{VehicleBreak}
use Rattle.day.specs.declared.vehicle.RouteLimits.{RouteLimits}
use Rattle.labels.specs.Columns.{Columns, stop_of, stop_at, leg_in, travel_in}
use Rattle.labels.specs.Walk.{Tour, tour_of, onward, walk}
use Rattle.labels.specs.Label.{at_start}
use Rattle.break_clock.specs.Schedule.{begun, pushed, tick_break, home_break, scheduled}
use Rattle.evaluation.specs.Route.{tick, home, unbroken, outcome, allowed, evaluated, feasible, eval, cost_of, effective_cost}
use Rattle.break_clock.specs.declared.Scheduled.{Scheduled}

-- ---- a stop

-- two days agree on what a location's flags say is there
pub record SameAt (c e : Columns) (k : ℕ) : Type 0 where
  pub flags : get_or c.flags k 0 ≡ get_or e.flags k 0
  pub service : get_or c.service k nan ≡ get_or e.service k nan
  pub ready : bit1 (get_or c.flags k 0) ≡ true → get_or c.ready k nan ≡ get_or e.ready k nan
  pub due : bit1 (get_or c.flags k 0) ≡ true → get_or c.due k nan ≡ get_or e.due k nan
  pub penalty : bit1 (get_or c.flags k 0) ≡ true → bit2 (get_or c.flags k 0) ≡ true → get_or c.penalty k nan ≡ get_or e.penalty k nan

same_window : (window soft : Bool) (ready ready' due due' penalty penalty' : Float) → (window ≡ true → ready ≡ ready') → (window ≡ true → due ≡ due') →
    (window ≡ true → soft ≡ true → penalty ≡ penalty') →
    cond window (cond soft (Soft (record { ready = ready; due = due }) penalty) (Hard (record { ready = ready; due = due }))) Open
    ≡ cond window (cond soft (Soft (record { ready = ready'; due = due' }) penalty') (Hard (record { ready = ready'; due = due' }))) Open
same_window true true ready ready' due due' penalty penalty' r d p = rw (r refl, d refl, p refl refl)
same_window true false ready ready' due due' penalty penalty' r d p = rw (r refl, d refl)
same_window false soft ready ready' due due' penalty penalty' r d p = refl

-- 01: 'A value whose flag is off is never read'
pub never_read : (c e : Columns) (k : ℕ) → SameAt c e k → stop_at c k ≡ stop_at e k
unfolding stop_of window_at
never_read c e k s =
    rw (s.service, ← s.flags)
    (ap (λ (w : Window). record { service = get_or e.service k nan; window = w })
    (same_window (bit1 (get_or c.flags k 0)) (bit2 (get_or c.flags k 0)) _ _ _ _ _ _ s.ready s.due s.penalty))

-- ---- a list

-- two days agree on each leg from a place through the list to the depot, in distance and in time, and on each visit's stop
pub record SameOn (c e : Columns) (place depot : ℕ) (list : List ℕ) : Type 0 where
  pub legs : (k : ℕ) → k ≤ length list → leg_in c (get_or (place ∷ list) k depot) (get_or list k depot) ≡ leg_in e (get_or (place ∷ list) k depot) (get_or list k depot)
  pub travels : (k : ℕ) → k ≤ length list →
      travel_in c (get_or (place ∷ list) k depot) (get_or list k depot) ≡ travel_in e (get_or (place ∷ list) k depot) (get_or list k depot)
  pub stops : (k : ℕ) → k < length list → stop_at c (get_or list k depot) ≡ stop_at e (get_or list k depot)

-- the same from the depot
abbrev pub SameFor : Columns → Columns → ℕ → List ℕ → Type 0
SameFor c e depot list = SameOn c e depot depot list

same_rest : {c e : Columns} {place depot visit : ℕ} {rest : List ℕ} → SameOn c e place depot (visit ∷ rest) → SameOn c e visit depot rest
same_rest s = record {
  legs = λ k h. s.legs (suc k) (suc-le-suc h);
  travels = λ k h. s.travels (suc k) (suc-le-suc h);
  stops = λ k h. s.stops (suc k) (suc-le-suc h);
}

-- for any clock that stands `At` the van's place, and whose tick and end ask only for the leg and the stop
module _ {Clock : Type 0} (ticks : Columns → Clock → ℕ → ℕ → Clock) (homes : Columns → ℕ → Tour Clock → Option Scheduled) (At : Clock → ℕ → Type 0) (c e : Columns)
    (depot : ℕ)
    (stays : (k : Clock) (place visit : ℕ) → At (ticks c k place visit) visit)
    (same-tick : (k : Clock) (place visit : ℕ) → At k place → travel_in c place visit ≡ travel_in e place visit → stop_at c visit ≡ stop_at e visit →
    ticks c k place visit ≡ ticks e k place visit)
    (same_home : (t : Tour Clock) → At t.clock t.place → leg_in c t.place depot ≡ leg_in e t.place depot →
    travel_in c t.place depot ≡ travel_in e t.place depot → homes c depot t ≡ homes e depot t) where
  same_step : (t : Tour Clock) (visit : ℕ) (x y : Float) (k n : Clock) → x ≡ y → k ≡ n → tour_of (t.distance ⊕ x) k visit ≡ tour_of (t.distance ⊕ y) n visit
  same_step t visit x y k n p q = rw (p, q)

  same_walk : (list : List ℕ) (t : Tour Clock) → At t.clock t.place → SameOn c e t.place depot list →
      homes c depot (walk c (ticks c) t list) ≡ homes e depot (walk e (ticks e) t list)
  same_walk [] t a s = same_home t a (s.legs 0 zero-le) (s.travels 0 zero-le)
  same_walk (visit ∷ rest) t a s =
      same_walk rest (onward c (ticks c) t visit) (stays t.clock t.place visit) (same_rest s)
      ∙ ap (λ (u : Tour Clock). homes e depot (walk e (ticks e) u rest))
      (same_step t visit _ _ _ _ (s.legs 0 zero-le)
      (same-tick t.clock t.place visit a (s.travels 0 zero-le) (s.stops 0 (suc-le-suc zero-le))))

module _ (c e : Columns) (depot : ℕ) (list : List ℕ) (same : SameFor c e depot list) where
  unbroken_same : unbroken c depot list ≡ unbroken e depot list
  unfolding unbroken home
  unbroken_same =
      same_walk tick home (λ k place. Unit {0}) c e depot (λ k place visit. tt) (λ k place visit a p q. rw (p, q)) (λ t a p q. rw (p, q)) list
      (tour_of zero64 (Some at_start) depot) tt same

  pub scheduled_same : (rest : VehicleBreak) → scheduled c rest depot list ≡ scheduled e rest depot list
  unfolding scheduled home_break pushed begun
  scheduled_same rest =
      same_walk tick_break home_break (λ k place. k.prev ≡ place) c e depot (λ k place visit. refl) (λ k place visit a p q. rw (a, p, q))
      (λ t a p q. rw (a, p, q)) list (tour_of zero64 (begun rest depot) depot) refl same

  outcome_same : (rest : Option VehicleBreak) → outcome c rest depot list ≡ outcome e rest depot list
  unfolding outcome
  outcome_same None = unbroken_same
  outcome_same (Some rest) = scheduled_same rest

  -- the check
  pub feasible_same : (limits : RouteLimits) → feasible c limits depot list ≡ feasible e limits depot list
  unfolding feasible
  feasible_same limits = ap (allowed limits) (outcome_same limits.rest)

  -- the evaluation
  pub eval_same : (limits : RouteLimits) → eval c limits depot list ≡ eval e limits depot list
  unfolding eval
  eval_same limits = ap (evaluated limits) (outcome_same limits.rest)

  -- the price
  pub cost_same : (limits : RouteLimits) → effective_cost c limits depot list ≡ effective_cost e limits depot list
  unfolding effective_cost
  cost_same limits = ap cost_of (eval_same limits)
