-- What each export writes, from the planner's answer: the values of its case, and what stood there before where it is refused. Assumes nothing.
use Rattle.std.specs.Prelude.{ℕ, Bool, true, false, Float, Option, Some, None, Result, Ok, Err}
use Rattle.break_clock.specs.declared.Scheduled.{Scheduled}
use Rattle.checks.specs.declared.table.Table.{Table}
use Rattle.day.specs.declared.refusal.Refusal.{Refusal}
use Rattle.evaluation.specs.declared.route.RouteEval.{RouteEval}
use Rattle.improvements.specs.declared.Improved.{Improved}
use Rattle.improvements.specs.declared.Improved.TheVariants as improved
use Rattle.labels.specs.declared.label.Taken.{Taken}
use Rattle.rearrangements.specs.declared.Rearranged.{Rearranged}
use Rattle.rearrangements.specs.declared.Rearranged.TheVariants as rearranged

-- ---- two_opt_improve, or_opt_improve, three_opt_improve

-- 1 where the run settled, 0 where it stopped
unfoldable pub settled_in : Result Improved Refusal → ℕ → ℕ
settled_in (Err r) before = before
settled_in (Ok (improved.Settled moves distance)) before = 1
settled_in (Ok (improved.Stopped moves distance)) before = 0

-- the moves made
unfoldable pub moves_in : Result Improved Refusal → ℕ → ℕ
moves_in (Err r) before = before
moves_in (Ok (improved.Settled moves distance)) before = moves
moves_in (Ok (improved.Stopped moves distance)) before = moves

-- the distance of the list handed back
unfoldable pub end_distance_in : Result Improved Refusal → Float → Float
end_distance_in (Err r) before = before
end_distance_in (Ok (improved.Settled moves distance)) before = distance
end_distance_in (Ok (improved.Stopped moves distance)) before = distance

-- ---- relocate_improve, exchange_improve, cross_depot_improve

-- 1 where the run settled, 0 where it stopped
unfoldable pub over_settled_in : Result Rearranged Refusal → ℕ → ℕ
over_settled_in (Err r) before = before
over_settled_in (Ok (rearranged.Settled moves remaining)) before = 1
over_settled_in (Ok (rearranged.Stopped moves remaining)) before = 0

-- the moves made
unfoldable pub over_moves_in : Result Rearranged Refusal → ℕ → ℕ
over_moves_in (Err r) before = before
over_moves_in (Ok (rearranged.Settled moves remaining)) before = moves
over_moves_in (Ok (rearranged.Stopped moves remaining)) before = moves

-- how many lists remain
unfoldable pub remaining_written : Result Rearranged Refusal → ℕ → ℕ
remaining_written (Err r) before = before
remaining_written (Ok (rearranged.Settled moves remaining)) before = remaining
remaining_written (Ok (rearranged.Stopped moves remaining)) before = remaining

-- ---- route_distance

-- the distance, where it is known
unfoldable pub distance_in : Result Float Refusal → Float → Float
distance_in (Err r) before = before
distance_in (Ok x) before = x

-- ---- route_feasible

-- 1 for true, 0 for false
unfoldable pub bit_of : Bool → ℕ
bit_of true = 1
bit_of false = 0

-- 1 where the list passes, 0 where it fails
unfoldable pub passes_in : Result Bool Refusal → ℕ → ℕ
passes_in (Err r) before = before
passes_in (Ok b) before = bit_of b

-- ---- route_eval

-- 1 where the list passes, 0 where it fails
unfoldable pub eval_passes : Result (Option RouteEval) Refusal → ℕ → ℕ
eval_passes (Err r) before = before
eval_passes (Ok None) before = 0
eval_passes (Ok (Some e)) before = 1

-- a number of the list, where it passes
unfoldable pub eval_in : (RouteEval → Float) → Result (Option RouteEval) Refusal → Float → Float
eval_in pick (Err r) before = before
eval_in pick (Ok None) before = before
eval_in pick (Ok (Some e)) before = pick e

-- ---- schedule

-- 1 where there is a schedule, 0 where there is none
unfoldable pub found_in : Result (Option Scheduled) Refusal → ℕ → ℕ
found_in (Err r) before = before
found_in (Ok None) before = 0
found_in (Ok (Some s)) before = 1

-- a number of the schedule, where there is one
unfoldable pub schedule_in : (Scheduled → Float) → Result (Option Scheduled) Refusal → Float → Float
schedule_in pick (Err r) before = before
schedule_in pick (Ok None) before = before
schedule_in pick (Ok (Some s)) before = pick s

-- whether the break is taken, 1 or 0
unfoldable pub taken_code : Option Taken → ℕ
taken_code None = 0
taken_code (Some taken) = 1

-- the position of the visit before whose service it is taken
unfoldable pub taken_position : Option Taken → ℕ → ℕ
taken_position None before = before
taken_position (Some taken) before = taken.position

-- when it starts
unfoldable pub taken_start : Option Taken → Float → Float
taken_start None before = before
taken_start (Some taken) before = taken.start

-- the same of a schedule, where there is one
unfoldable pub taken_in : Result (Option Scheduled) Refusal → ℕ → ℕ
taken_in (Err r) before = before
taken_in (Ok None) before = before
taken_in (Ok (Some s)) before = taken_code s.rest

-- the position
unfoldable pub position_in : Result (Option Scheduled) Refusal → ℕ → ℕ
position_in (Err r) before = before
position_in (Ok None) before = before
position_in (Ok (Some s)) before = taken_position s.rest before

-- the start
unfoldable pub start_in : Result (Option Scheduled) Refusal → Float → Float
start_in (Err r) before = before
start_in (Ok None) before = before
start_in (Ok (Some s)) before = taken_start s.rest before

-- ---- table

-- a number of the table, where it is known
unfoldable pub table_in : {A : Type 0} → (Table → A) → Result Table Refusal → A → A
table_in pick (Err r) before = before
table_in pick (Ok t) before = pick t

-- the largest distance
abbrev pub scale_in : Result Table Refusal → Float → Float
scale_in = table_in (λ t. t.scale)

-- the least gain that counts
abbrev pub floor_in : Result Table Refusal → Float → Float
floor_in = table_in (λ t. t.floor)

-- whether the table is symmetric, 1 or 0
abbrev pub symmetric_in : Result Table Refusal → ℕ → ℕ
symmetric_in = table_in (λ t. bit_of t.symmetric)

-- the fixed cost in distance
abbrev pub fixed_in : Result Table Refusal → Float → Float
fixed_in = table_in (λ t. t.fixed)

-- the number of depots
abbrev pub depots_in : Result Table Refusal → ℕ → ℕ
depots_in = table_in (λ t. t.depots)
