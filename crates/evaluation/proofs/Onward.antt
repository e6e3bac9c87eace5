-- A check of A ++ B goes on from where A ended, and fails where A failed: the walk is a fold, and what is missed stays missed. Assumes nothing.
use Prim.Native.Nat.{ℕ}
use mathlib.Core.Path.{◌≡◌, ap}
use mathlib.Core.List.{List, ◌++◌}
use Rattle.std.specs.Prelude.{Option, Some}
use Rattle.numbers.specs.Operations.{zero64}
use Rattle.day.specs.declared.vehicle.VehicleBreak.{VehicleBreak}
use Rattle.labels.specs.Columns.{Columns}
use Rattle.labels.specs.Walk.{Tour, tour_of, walk, walk_on}
use Rattle.labels.specs.Label.{at_start}
use Rattle.break_clock.specs.Schedule.{begun, tick_break, home_break, scheduled}
use Rattle.evaluation.specs.Route.{tick, home, unbroken}
use Rattle.labels.specs.declared.label.Label.{Label}
use Rattle.break_clock.specs.declared.BreakClock.{BreakClock}

module _ (c : Columns) (depot : ℕ) where
  -- where a list without a break ends
  abbrev pub driven : List ℕ → Tour (Option Label)
  driven list = walk c (tick c) (tour_of zero64 (Some at_start) depot) list

  -- where a list with the break ends
  abbrev pub driven_break : VehicleBreak → List ℕ → Tour BreakClock
  driven_break rest list = walk c (tick_break c) (tour_of zero64 (begun rest depot) depot) list

  -- without a break, the second part goes on from where the first ended
  pub unbroken_on : (first second : List ℕ) → unbroken c depot (first ++ second) ≡ home c depot (walk c (tick c) (driven first) second)
  unfolding unbroken
  unbroken_on first second = ap (home c depot) (walk_on c (tick c) (tour_of zero64 (Some at_start) depot) first second)

  -- the same with the break
  pub scheduled_on : (rest : VehicleBreak) (first second : List ℕ) →
      scheduled c rest depot (first ++ second) ≡ home_break c depot (walk c (tick_break c) (driven_break rest first) second)
  unfolding scheduled
  scheduled_on rest first second = ap (home_break c depot) (walk_on c (tick_break c) (tour_of zero64 (begun rest depot) depot) first second)
