-- A run of 2-opt, Or-opt or 3-opt on one list of a day, soft or not. For the contracts of the entries within a list. Assumes nothing.
use Rattle.std.specs.Prelude.{cond, List, [], ℕ}
use Rattle.numbers.specs.Operations.{zero64}
use Rattle.numbers.specs.Floor.{gain_floor}
use Rattle.day.specs.Matrix.{scale_of}
use Rattle.day.specs.Customer.{has_soft_windows}
use Rattle.day.specs.declared.vehicle.RouteLimits.{RouteLimits}
use Rattle.labels.specs.Columns.{Columns}
use Rattle.descent.specs.Permitted.{two_opt, or_opt, three_opt, n_minus_length}
use Rattle.descent.specs.Search.{Word, Outcome, Sweep}
use Rattle.descent.specs.Engines.{run_of}
use Rattle.deltas.specs.Judged.{Map, float_judge}
use Rattle.engine.specs.Engine.{checks_of, map_of}
use Rattle.soft.specs.Soft.{soft_run}
use Rattle.neighbours.specs.Neighbours.{Neighbourhood, Reverse, Relocate, Reconnect}

-- what a run leaves: the list, its end word and the moves made
pub record Ran : Type 0 where
  pub list : List ℕ
  pub word : Word
  pub moves : ℕ

-- the list that the last move left
abbrev pub ran_of : {Place : Type 0} → Outcome (Sweep (List ℕ) Place) → Ran
ran_of run = record { list = run.last.now; word = run.word; moves = run.moves }

-- what the deltas read of a day: no delta within a list reads the fixed cost
abbrev pub list_map : Columns → ℕ → Map
list_map c depot = map_of c.l c.distances depot zero64

-- without soft windows: the engine's run of demand 3, judged by its f64 delta
unfoldable pub hard_ran : Neighbourhood → Columns → RouteLimits → ℕ → ℕ → List ℕ → Ran
hard_ran Reverse c limits depot limit list = ran_of (run_of two_opt (checks_of [] c limits depot) (float_judge two_opt (list_map c depot)) limit list)
hard_ran Relocate c limits depot limit list =
    ran_of (run_of (or_opt n_minus_length) (checks_of [] c limits depot) (float_judge (or_opt n_minus_length) (list_map c depot)) limit list)
hard_ran Reconnect c limits depot limit list = ran_of (run_of three_opt (checks_of [] c limits depot) (float_judge three_opt (list_map c depot)) limit list)

-- 01, Modules, 7: with a soft window anywhere on the day, a depot's included, the same neighbourhood is searched by `soft::improve`
unfoldable pub ran_by : Neighbourhood → Columns → RouteLimits → ℕ → ℕ → List ℕ → Ran
ran_by which c limits depot limit list =
    cond (has_soft_windows c.flags) (ran_of (soft_run which c limits depot (gain_floor (scale_of c.distances)) limit list))
    (hard_ran which c limits depot limit list)
