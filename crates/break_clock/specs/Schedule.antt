-- The clock with the driver's break, evaluation/schedule.rs. Assumes nothing.
use Rattle.std.specs.Prelude.{ℕ, ◌+◌, ◌<◌, ◌≤◌, ◌≡◌, refl, List, Bool, false, cond, ◌||◌, length, get_or, drop, Float, Option, Some, None, is_some}
use Rattle.std.proofs.Common.{sym, ap, subst, ◌∙◌, true≢false}
use Rattle.std.specs.Float.Ieee.{le}
use Rattle.numbers.specs.Operations.{◌⊕◌, zero64}
use Rattle.day.specs.declared.vehicle.VehicleBreak.{VehicleBreak}
use Rattle.labels.specs.Columns.{Columns, stop_at, leg_in, travel_in}
use Rattle.labels.specs.Walk.{Tour, tour_of, walk, walk_turn, walk_end, walk_lost}
use Rattle.labels.specs.Label.{at_start, served_from, served_rested_from, earlier_of}
use Rattle.labels.specs.declared.label.Taken.{Taken}
use Rattle.labels.specs.declared.label.Label.{Label}
use Rattle.break_clock.specs.declared.Scheduled.{Scheduled}
use Rattle.break_clock.specs.declared.BreakClock.{BreakClock}

-- ---- the end of a list

-- a list that ends with this label
unfoldable pub ended : Label → Option Taken → Float → Float → Option Scheduled
ended label taken distance back =
    Some (record {
      distance = distance;
      duration = label.time ⊕ back;
      lateness = label.lateness;
      lateness_cost = label.lateness_cost;
      rest = taken;
    })

-- a list that ends here with the break taken, if it got here
unfoldable pub end_of : Option Label → Float → Float → Option Scheduled
end_of None distance back = None
end_of (Some label) distance back = ended label (Some (record { position = label.position; start = label.start })) distance back

-- ---- the clock with the break

-- the van at the depot at time 0, the break still to take
unfoldable pub begun : VehicleBreak → ℕ → BreakClock
begun rest depot = record { rest = rest; before = Some at_start; after = None; prev = depot; index = 0 }

-- the visit is reached with the break still to take, taken there, or taken before
unfoldable pub pushed : Columns → BreakClock → ℕ → BreakClock
pushed c clock visit = record {
  rest = clock.rest;
  before = served_from clock.before (travel_in c clock.prev visit) (stop_at c visit);
  after =
      earlier_of
      (served_from clock.after (travel_in c clock.prev visit) (stop_at c visit))
      (served_rested_from clock.before (travel_in c clock.prev visit) (stop_at c visit) clock.index clock.rest);
  prev = visit;
  index = clock.index + 1;
}

-- the clock with the break knows its place
abbrev pub tick_break : Columns → BreakClock → ℕ → ℕ → BreakClock
tick_break c clock place visit = pushed c clock visit

-- a label is left
unfoldable pub any_left_of : BreakClock → Bool
any_left_of clock = is_some clock.before || is_some clock.after

-- 01, 5: 'It is left out exactly when the label without it exists and its time plus travel back is at most earliest'
unfoldable pub end_before : VehicleBreak → Option Label → Option Label → Float → Float → Option Scheduled
end_before rest None after distance back = end_of after distance back
end_before rest (Some label) after distance back =
    cond (le (label.time ⊕ back) rest.earliest) (ended label None distance back) (end_of after distance back)

-- the clock at the return to the depot
unfoldable pub finished : BreakClock → Float → Float → Option Scheduled
finished clock distance back = end_before clock.rest clock.before clock.after distance back

-- a list driven with the break, back at the depot
unfoldable pub home_break : Columns → ℕ → Tour BreakClock → Option Scheduled
home_break c depot t = finished t.clock (t.distance ⊕ leg_in c t.place depot) (travel_in c t.clock.prev depot)

-- `schedule`: the clock of a list with the break
unfoldable pub scheduled : Columns → VehicleBreak → ℕ → List ℕ → Option Scheduled
scheduled c rest depot list = home_break c depot (walk c (tick_break c) (tour_of zero64 (begun rest depot) depot) list)

-- ---- laws

-- no label is left
abbrev pub Lost : BreakClock → Type 0
Lost clock = (clock.before ≡ None) × (clock.after ≡ None)

none_left : (before after : Option Label) → is_some before || is_some after ≡ false → (before ≡ None) × (after ≡ None)
none_left None None h = (refl, refl)
none_left None (Some a) h = absurd (true≢false h)
none_left (Some b) after h = absurd (true≢false h)

-- where none is left, none comes again
pub stays_lost : (c : Columns) (clock : BreakClock) (place visit : ℕ) → Lost clock → Lost (tick_break c clock place visit)
unfolding pushed served_from served_rested_from earlier_of
stays_lost c clock place visit h = (rw h.0, rw (h.0, h.1))

-- one visit more
pub schedule_turns : (c : Columns) (list : List ℕ) (i : ℕ) (clock next : BreakClock) (distance x : Float) (place : ℕ) → i < length list →
    x ≡ leg_in c place (get_or list i 0) → next ≡ pushed c clock (get_or list i 0) →
    walk c (tick_break c) (tour_of (distance ⊕ x) next (get_or list i 0)) (drop (i + 1) list) ≡ walk c (tick_break c) (tour_of distance clock place) (drop i list)
schedule_turns c list i clock next distance x place h e f = walk_turn c (tick_break c) list i distance x clock next place h e f

module _ (c : Columns) (depot : ℕ) where
  -- and the list can't be scheduled
  pub home_lost : (t : Tour BreakClock) → Lost t.clock → None ≡ home_break c depot t
  unfolding home_break finished end_before end_of
  home_lost t h = rw (h.0, h.1)

  module _ (list : List ℕ) (i : ℕ) (clock : BreakClock) (distance : Float) (place : ℕ) where
    -- the visit at i leaves no label
    pub schedule_stops : (next : BreakClock) (left : Bool) → i < length list → next ≡ pushed c clock (get_or list i 0) → left ≡ any_left_of next → left ≡ false →
        None ≡ home_break c depot (walk c (tick_break c) (tour_of distance clock place) (drop i list))
    unfolding any_left_of
    schedule_stops next left h e f g =
        home_lost _ (walk_lost c (tick_break c) list i Lost (stays_lost c) (tour_of distance clock place) h
        (subst Lost e (none_left next.before next.after (sym f ∙ g))))

    -- no visit is left: the return
    pub schedule_ends : (x : Float) → length list ≤ i → x ≡ leg_in c place depot →
        finished clock (distance ⊕ x) (travel_in c clock.prev depot) ≡ home_break c depot (walk c (tick_break c) (tour_of distance clock place) (drop i list))
    unfolding home_break
    schedule_ends x h e = rw (e) (ap (home_break c depot) (walk_end c (tick_break c) list i (tour_of distance clock place) h))

  -- the walk starts at the depot
  pub schedule_is : (rest : VehicleBreak) (list : List ℕ) (clock : BreakClock) (t : Tour BreakClock) → clock ≡ begun rest depot →
      t ≡ walk c (tick_break c) (tour_of zero64 clock depot) list → home_break c depot t ≡ scheduled c rest depot list
  unfolding scheduled
  schedule_is rest list clock t e f = rw (f, e)
