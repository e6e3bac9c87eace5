-- The starred days of document 01 that concern a check, of the definitions: one theorem over a table, by computing each row. Assumes nothing.
use Prim.Native.Nat.{ℕ, ◌+◌, ◌-◌, ◌*◌}
use mathlib.Core.Path.{◌≡◌, refl}
use mathlib.Core.List.{List, [], ◌∷◌, ◌++◌, map}
use mathlib.Core.Bool.{Bool, true, false}
use lib.IntN.{pos, negsuc}
use lib.ListN.{replicate}
use lib.Ieee.{Float, nan, fin, binary64, of_int, add, sub, mul, sum, lt, le, eq, neg}
use Rattle.std.specs.Prelude.{Option, Some, None}
use Rattle.numbers.specs.Operations.{zero64}
use Rattle.day.specs.Matrix.{leg, travel}
use Rattle.day.specs.Customer.{window_at, is_violated, waiting_time, lateness_at}
use Rattle.day.specs.Vehicle.{allows, keeps}
use Rattle.day.specs.declared.customer.Window.TheVariants.{Hard}
use Rattle.day.specs.declared.vehicle.VehicleBreak.{VehicleBreak}
use Rattle.day.specs.declared.vehicle.RouteLimits.{RouteLimits}
use Rattle.labels.specs.Columns.{Columns, columns, stop_of}
use Rattle.labels.specs.Label.{at_start, in_time, too_late, served_in, resting, served, served_rested, served_from, served_rested_from, is_earlier, earlier_of}
use Rattle.break_clock.specs.Schedule.{ended, end_of, begun, pushed, end_before, finished, home_break, scheduled}
use Rattle.evaluation.specs.Route.{end_untaken, home, unbroken, outcome, allowed, feasible}
use Rattle.labels.specs.declared.stop.Stop.{Stop}
use Rattle.labels.specs.declared.label.Taken.{Taken}
use Rattle.labels.specs.declared.label.Label.{Label}
use Rattle.break_clock.specs.declared.Scheduled.{Scheduled}

-- a whole number
abbrev pub whole : ℕ → Float
whole n = of_int binary64 (pos n)

-- ---- 'Places 0 to 4 at 0, 10, 20, 30, 40 on a line, depot 0, distance the gap, no times, demand 1, service 0, no cost'

abbrev pub places : List ℕ
places = 0 ∷ 1 ∷ 2 ∷ 3 ∷ 4 ∷ []

abbrev pub row : ℕ → List Float
row a = map (λ b. whole (10 * ((a - b) + (b - a)))) places

-- the day, place 2 having these flags, ready 0 and this due
abbrev pub line : ℕ → ℕ → Columns
line flags due =
    columns 5 (1 ∷ 0 ∷ flags ∷ 0 ∷ 0 ∷ []) (replicate 5 zero64) (replicate 5 zero64) (replicate 5 (whole due)) (replicate 5 nan)
    (row 0 ++ row 1 ++ row 2 ++ row 3 ++ row 4) []

abbrev pub free : RouteLimits
free = record { max_distance = None; max_duration = None; rest = None }

-- 'break earliest .., latest 90, duration 30'
abbrev pub pause : ℕ → VehicleBreak
pause earliest = record { earliest = whole earliest; latest = whole 90; duration = whole 30 }

-- ---- the table

-- what a definition answers
pub data Answer : Type 0 where
  passes : Bool → Answer
  runs : Option Scheduled → Answer
  serves : Option Label → Answer

-- a row: what a definition answers, and what document 01 says
pub record Row : Type 0 where
  pub answered : Answer
  pub said : Answer

-- a schedule with nothing late
abbrev pub on_time : ℕ → ℕ → Option Taken → Answer
on_time distance duration rest =
    runs (Some (record { distance = whole distance; duration = whole duration; lateness = zero64; lateness_cost = zero64; rest = rest }))

-- a service of 0 that starts then
abbrev pub starts : Float → Answer
starts time = serves (Some (record { time = time; lateness = zero64; lateness_cost = zero64; position = 0; start = zero64 }))

-- 2^-53, and a window that opens at 1 + 2^-52
abbrev pub early : Float
early = fin false 1 (negsuc 52)

abbrev pub narrow : Stop
narrow = record { service = zero64; window = Hard (record { ready = fin false 4503599627370497 (negsuc 51); due = whole 2 }) }

abbrev pub days : List Row
days =
    record { answered = passes (feasible (line 2 20) free 0 (2 ∷ [])); said = passes true }
    ∷ record { answered = passes (feasible (line 2 19) free 0 (2 ∷ [])); said = passes false }
    ∷ record { answered = runs (scheduled (line 0 0) (pause 20) 0 (1 ∷ [])); said = on_time 20 20 None }
    ∷ record { answered = runs (scheduled (line 0 0) (pause 19) 0 (1 ∷ [])); said = on_time 20 59 (Some (record { position = 0; start = whole 19 })) }
    ∷ record { answered = serves (served at_start early narrow); said = starts (whole 1) }
    ∷ []

-- the definitions answer what document 01 says
pub worked_days : map (λ (r : Row). r.answered) days ≡ map (λ (r : Row). r.said) days
unfolding feasible outcome allowed unbroken home end_untaken scheduled home_break finished end_before end_of ended begun pushed
    at_start in_time too_late served_in resting served served_rested served_from served_rested_from is_earlier earlier_of stop_of window_at is_violated
    waiting_time lateness_at allows keeps leg travel of_int add sub mul sum lt le eq neg
worked_days = refl
