-- A list laid out passes as it does from the end of a head that it shares: a walk goes on from where its first part ended. Assumes nothing.
use Prim.Native.Nat.{ℕ, ◌+◌, ◌<◌}
use mathlib.Core.Path.{◌≡◌, sym, ap, ◌∙◌}
use mathlib.Core.Bool.{false}
use mathlib.Core.List.{List}
use lib.ListN.{length, get_or, take, drop, take-append-drop}
use lib.Ieee.{Float}
use Rattle.std.specs.Prelude.{Option, Some, None}
use Rattle.numbers.specs.Operations.{◌⊕◌, zero64}
use Rattle.day.specs.Vehicle.{allows}
use Rattle.day.specs.declared.vehicle.VehicleBreak.{VehicleBreak}
use Rattle.day.specs.declared.vehicle.RouteLimits.{RouteLimits}
use Rattle.labels.specs.Columns.{Columns, leg_in}
use Rattle.labels.specs.Walk.{Tour, tour_of, walk, walk_on}
use Rattle.labels.specs.Label.{at_start}
use Rattle.break_clock.specs.Schedule.{ended}
use Rattle.evaluation.specs.Route.{tick, home, unbroken, outcome, allowed, feasible, unbroken_turns, unbroken_stops}
use Rattle.labels.specs.declared.label.Label.{Label}
use Rattle.break_clock.specs.declared.Scheduled.{Scheduled}
use Rattle.heads.specs.Head.{tour_at, Driven}
use Rattle.heads.specs.declared.Head.{Head}
use Rattle.layouts.specs.Layout.{passes_from}

-- an end passes where both limits are kept
pub end_passes : (limits : RouteLimits) (label : Label) (distance back : Float) (o : Option Scheduled) → ended label None distance back ≡ o
    → allows limits distance (label.time ⊕ back) ≡ allowed limits o
unfolding allowed ended
end_passes limits label distance back o e = ap (allowed limits) e

-- ---- what a loop knows at each turn, whose visit was read off elsewhere

module _ (c : Columns) (list : List ℕ) (i : ℕ) (label : Label) (distance : Float) (place visit : ℕ) (read : visit ≡ get_or list i 0) (h : i < length list) where
  -- one visit more
  pub turns : (next : Label) (x : Float) → x ≡ leg_in c place visit → Some next ≡ tick c (Some label) place visit
      → walk c (tick c) (tour_of (distance ⊕ x) (Some next) visit) (drop (i + 1) list) ≡ walk c (tick c) (tour_of distance (Some label) place) (drop i list)
  turns next x e f =
      let e-there = rw read at e in
      let f-there = rw read at f in
      rw read (unbroken_turns c list i label next distance x place h e-there f-there)

  -- the visit is missed
  pub misses : (limits : RouteLimits) (depot : ℕ) {whole : Tour (Option Label)} → None ≡ tick c (Some label) place visit
      → walk c (tick c) (tour_of distance (Some label) place) (drop i list) ≡ whole → false ≡ allowed limits (home c depot whole)
  unfolding allowed
  misses limits depot f so_far =
      let f-there = rw read at f in
      ap (allowed limits) (unbroken_stops c depot list i label distance place h f-there ∙ ap (home c depot) so_far)

-- ---- the whole

-- with no break to take a list passes as it does from a head that it shares
pub from_head : (c : Columns) (limits : RouteLimits) (depot : ℕ) (list other : List ℕ) (head : Head) → Driven c limits.rest depot list head
    → take head.visits other ≡ take head.visits list → limits.rest ≡ None → passes_from c limits depot head other ≡ feasible c limits depot other
unfolding passes_from feasible outcome unbroken
from_head c limits depot list other head driven e none =
    let start : Tour (Option Label) = tour_of zero64 (Some at_start) depot in
    let whole : walk c (tick c) start other ≡ walk c (tick c) (tour_at head) (drop head.visits other) =
    ap (walk c (tick c) start) (sym (take-append-drop head.visits other))
    ∙ walk_on c (tick c) start (take head.visits other) (drop head.visits other)
    ∙ ap (λ (t : Tour (Option Label)). walk c (tick c) t (drop head.visits other)) (ap (walk c (tick c) start) e ∙ driven.same) in
    ap (λ (t : Tour (Option Label)). allowed limits (home c depot t)) (sym whole) ∙ ap (λ (rest : Option VehicleBreak). allowed limits (outcome c rest depot other)) (sym none)
