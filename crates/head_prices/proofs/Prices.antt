-- A head driven once gives every list that shares it its price, because a walk over a list goes on from where its first part ended. Assumes nothing.
use Prim.Native.Nat.{ℕ}
use mathlib.Core.Path.{◌≡◌, refl, sym, ap, ◌∙◌}
use mathlib.Core.List.{List}
use lib.ListN.{take, drop, take-append-drop}
use Rattle.std.specs.Prelude.{Option, Some, None}
use Rattle.numbers.specs.Operations.{zero64}
use Rattle.day.specs.declared.vehicle.VehicleBreak.{VehicleBreak}
use Rattle.day.specs.declared.vehicle.RouteLimits.{RouteLimits}
use Rattle.labels.specs.Columns.{Columns}
use Rattle.labels.specs.Walk.{Tour, tour_of, walk, walk_on}
use Rattle.labels.specs.Label.{at_start}
use Rattle.evaluation.specs.Route.{tick, home, unbroken, outcome, evaluated, eval, cost_of, effective_cost}
use Rattle.labels.specs.declared.label.Label.{Label}
use Rattle.heads.specs.Head.{tour_at, Driven}
use Rattle.heads.specs.declared.Head.{Head}
use Rattle.head_prices.specs.Prices.{cost_from, price_by, price_from}

module _ (c : Columns) (limits : RouteLimits) (depot : ℕ) (head : Head) (others : List ℕ) (rest : Option VehicleBreak) where
  pub price_unbroken : rest ≡ None → cost_from c limits depot head others ≡ price_by rest c limits depot head others
  unfolding price_by
  price_unbroken e = rw e

  pub price_broken : (pause : VehicleBreak) → rest ≡ Some pause → effective_cost c limits depot others ≡ price_by rest c limits depot head others
  unfolding price_by
  price_broken pause e = rw e

-- a list with this head costs what its visits behind the head cost from there on
pub from_head : (c : Columns) (limits : RouteLimits) (depot : ℕ) (list other : List ℕ) (head : Head) → Driven c limits.rest depot list head →
    take head.visits other ≡ take head.visits list → price_from c limits depot head (drop head.visits other) ≡ effective_cost c limits depot other
unfolding price_by cost_from effective_cost eval outcome unbroken
from_head c limits depot list other head driven e = go limits.rest refl
  where
    start : Tour (Option Label)
    start = tour_of zero64 (Some at_start) depot

    whole : walk c (tick c) start other ≡ walk c (tick c) (tour_at head) (drop head.visits other)
    whole =
        ap (walk c (tick c) start) (sym (take-append-drop head.visits other))
        ∙ walk_on c (tick c) start (take head.visits other) (drop head.visits other)
        ∙ ap (λ (t : Tour (Option Label)). walk c (tick c) t (drop head.visits other)) (ap (walk c (tick c) start) e ∙ driven.same)

    go : (rest : Option VehicleBreak) → limits.rest ≡ rest →
        price_by rest c limits depot head (drop head.visits other) ≡ cost_of (evaluated limits (outcome c rest depot other))
    go None r = ap (λ (t : Tour (Option Label)). cost_of (evaluated limits (home c depot t))) (sym whole)
    go (Some pause) r = rw (driven.unbroken pause r, r)
