-- The heads of a list, driven once and kept. For the searches that price many lists which share their first visits with one list. Assumes nothing.
use Rattle.std.specs.Prelude.{ℕ, ◌+◌, ◌<◌, ◌≤◌, ◌≡◌, List, ◌∷◌, length, get_or, take, Option, Some, None}
use Rattle.std.specs.Float.{nan}
use Rattle.numbers.specs.Operations.{zero64}
use Rattle.labels.specs.Columns.{Columns}
use Rattle.labels.specs.Walk.{Tour, tour_of, walk}
use Rattle.labels.specs.Label.{at_start}
use Rattle.evaluation.specs.Route.{tick}
use Rattle.labels.specs.declared.label.Label.{Label}
use Rattle.heads.specs.declared.Head.{Head}
use Rattle.heads.specs.Head.{tour_at}
use Rattle.kept_heads.specs.declared.KeptHead.{KeptHead}
use Rattle.kept_heads.specs.declared.KeptHeads.{KeptHeads}

-- what is kept of a head
abbrev pub kept_of : Head → KeptHead
kept_of head = record {
  distance = head.distance;
  time = head.label.time;
  lateness = head.label.lateness;
  lateness_cost = head.label.lateness_cost;
}

-- what stands past the table
abbrev pub nothing_kept : KeptHead
nothing_kept = record { distance = nan; time = nan; lateness = nan; lateness_cost = nan }

-- the label of a head that is kept; no break is taken
abbrev pub label_of : KeptHead → Label
label_of kept = record { time = kept.time; lateness = kept.lateness; lateness_cost = kept.lateness_cost; position = 0; start = zero64 }

-- where the van is behind the first k visits: at the last of them, or at the depot
abbrev pub place_before : ℕ → List ℕ → ℕ → ℕ
place_before depot list k = get_or (depot ∷ list) k 0

-- the head of k visits, of which this is kept
abbrev pub head_from : KeptHead → ℕ → List ℕ → ℕ → Head
head_from kept depot list k = record { visits = k; distance = kept.distance; label = label_of kept; place = place_before depot list k }

-- the head of the first k visits
abbrev pub head_of : KeptHeads → ℕ → List ℕ → ℕ → Head
head_of kept depot list k = head_from (get_or kept.heads k nothing_kept) depot list k

-- the walk over the first k visits from the depot at time 0
abbrev pub walked : Columns → ℕ → List ℕ → ℕ → Tour (Option Label)
walked c depot list k = walk c (tick c) (tour_of zero64 (Some at_start) depot) (take k list)

-- what is kept are the heads of the first `reached` visits and of fewer; the visit behind them, where there is one, can't be served
pub record Kept (c : Columns) (depot : ℕ) (list : List ℕ) (kept : KeptHeads) : Type 0 where
  pub few : kept.reached ≤ length list
  pub head_at : (k : ℕ) → k ≤ kept.reached → walked c depot list k ≡ tour_at (head_of kept depot list k)
  pub lost : kept.reached < length list → (walked c depot list (kept.reached + 1)).clock ≡ None
