-- A head of a list, driven once. For the searches that price or check many lists with one head. Assumes nothing.
use Rattle.std.specs.Prelude.{ℕ, ◌<◌, ◌≤◌, ◌≡◌, cond, List, ltb, length, get_or, take, Option, Some, None}
use Rattle.std.proofs.Math.Seq.{slice}
use Rattle.numbers.specs.Operations.{zero64}
use Rattle.day.specs.declared.vehicle.VehicleBreak.{VehicleBreak}
use Rattle.labels.specs.Columns.{Columns}
use Rattle.labels.specs.Walk.{Tour, tour_of, walk}
use Rattle.labels.specs.Label.{at_start}
use Rattle.evaluation.specs.Route.{tick}
use Rattle.labels.specs.declared.label.Label.{Label}
use Rattle.heads.specs.declared.Head.{Head}

-- the head of no visits: the van at the depot at time 0
unfoldable pub at_depot : ℕ → Head
at_depot depot = record { visits = 0; distance = zero64; label = at_start; place = depot }

-- a walk goes on from the end of a head
abbrev pub tour_at : Head → Tour (Option Label)
tour_at head = tour_of head.distance (Some head.label) head.place

-- how far a head may go: nowhere with a break to take
unfoldable pub shared : Option VehicleBreak → ℕ → ℕ
shared None to = to
shared (Some pause) to = 0

-- the head, or the depot where it goes too far
unfoldable pub nearest : Head → ℕ → ℕ → Head
nearest head depot to = cond (ltb to head.visits) (at_depot depot) head

-- the head is the walk over the list's first visits, all served; with a break to take it has none
pub record Driven (c : Columns) (rest : Option VehicleBreak) (depot : ℕ) (list : List ℕ) (head : Head) : Type 0 where
  pub few : head.visits ≤ length list
  pub placed : head.place < c.l
  pub same : walk c (tick c) (tour_of zero64 (Some at_start) depot) (take head.visits list) ≡ tour_at head
  pub unbroken : (pause : VehicleBreak) → rest ≡ Some pause → head.visits ≡ 0

-- driven on from a start over the visits of a list from `from` on: the drive ends at `to`, or before a visit that can't be served
pub record Drove (c : Columns) (start : Head) (list : List ℕ) (from to : ℕ) (end : Head) : Type 0 where
  pub behind : from ≤ end.visits
  pub within : end.visits ≤ to
  pub placed : end.place < c.l
  pub same : walk c (tick c) (tour_at start) (slice from end.visits list) ≡ tour_at end
  pub lost : end.visits < to → None ≡ tick c (Some end.label) end.place (get_or list end.visits 0)
