-- The run of tail exchange where a day has a soft window (local_search/exchange.rs, the `soft` branches). For the contract of `improve`, which tail exchange
-- calls there. Assumes nothing.
use Rattle.std.specs.Prelude.{List, [], ◌∷◌, ℕ, ℤ, Float}
use Rattle.day.specs.declared.vehicle.RouteLimits.{RouteLimits}
use Rattle.labels.specs.Columns.{Columns}
use Rattle.evaluation.specs.Route.{effective_cost}
use Rattle.descent.specs.Search.{Sweep, Outcome, next, run}
use Rattle.descent.specs.Across.{Pair}
use Rattle.loads.specs.Loads.{boxes}
use Rattle.tail_prices.specs.Tails.{soft_exchange_search, soft_exchange_judge}

-- `exchange_improve` with soft windows under a limit: what it leaves, how it ends, and the moves made
unfoldable pub soft_exchange_run : Columns → List ℤ → RouteLimits → ℤ → ℕ → Float → ℕ → List (List ℕ) → Outcome (Sweep (List (List ℕ)) Pair)
soft_exchange_run c demand limits capacity depot floor limit ls =
    let cost = effective_cost c limits depot in
    run (next (soft_exchange_search (boxes demand capacity ∷ []) cost) (soft_exchange_judge cost floor)) limit (record { now = ls; ahead = [] })
