-- A head of a list with the driver's break, driven once. For the searches that price many lists with one head. Assumes nothing.
use Rattle.std.specs.Prelude.{ℕ, ◌+◌, ◌-◌, ◌<◌, ◌≤◌, ◌≡◌, cond, List, eqb, take, Option, Some, None}
use Rattle.std.proofs.Math.Seq.{slice}
use Rattle.numbers.specs.Operations.{zero64}
use Rattle.day.specs.declared.vehicle.VehicleBreak.{VehicleBreak}
use Rattle.labels.specs.Columns.{Columns}
use Rattle.labels.specs.Walk.{Tour, tour_of, walk}
use Rattle.break_clock.specs.Schedule.{begun, tick_break, home_break}
use Rattle.break_clock.specs.declared.BreakClock.{BreakClock}
use Rattle.labels.specs.declared.label.Label.{Label}
use Rattle.broken_heads.specs.declared.MaybeLabel.{MaybeLabel}
use Rattle.broken_heads.specs.declared.BrokenHead.{BrokenHead}

-- the label, where it is there
unfoldable pub reached_as : MaybeLabel → Option Label
reached_as kept = cond (eqb kept.there 1) (Some kept.label) None

-- the clock of a head
unfoldable pub clock_of : BrokenHead → BreakClock
clock_of head =
    record { rest = head.rest; before = reached_as head.before; after = reached_as head.after; prev = head.place; index = head.index }

-- a walk goes on from the end of a head
abbrev pub tour_at : BrokenHead → Tour BreakClock
tour_at head = tour_of head.distance (clock_of head) head.place

-- two tours are alike: whatever visits follow and wherever the van returns to, the outcome is the same
pub record Alike (c : Columns) (one other : Tour BreakClock) : Type 0 where
  pub same_end : (depot : ℕ) (rest : List ℕ) → home_break c depot (walk c (tick_break c) one rest) ≡ home_break c depot (walk c (tick_break c) other rest)

-- the head is like the walk over the list's first visits: it may have fewer where no label is left
pub record HeadOf (c : Columns) (pause : VehicleBreak) (depot : ℕ) (list : List ℕ) (visits : ℕ) (head : BrokenHead) : Type 0 where
  pub placed : head.place < c.l
  pub counted : head.index ≤ visits
  pub alike : Alike c (walk c (tick_break c) (tour_of zero64 (begun pause depot) depot) (take visits list)) (tour_at head)

-- driven on from a start over the visits of a list from `from` up to, not including, `to`
pub record Drove (c : Columns) (start : BrokenHead) (list : List ℕ) (from to : ℕ) (end : BrokenHead) : Type 0 where
  pub placed : end.place < c.l
  pub counted : end.index ≤ start.index + (to - from)
  pub alike : Alike c (walk c (tick_break c) (tour_at start) (slice from to list)) (tour_at end)
