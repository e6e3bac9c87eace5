-- Relocate where a day has a soft window, as a whole run. For the contract of `improve`, which relocate calls there. Assumes nothing.
use Rattle.std.specs.Prelude.{ℕ, List, [], ◌∷◌, ℤ, Float}
use Rattle.day.specs.declared.vehicle.RouteLimits.{RouteLimits}
use Rattle.labels.specs.Columns.{Columns}
use Rattle.evaluation.specs.Route.{effective_cost}
use Rattle.descent.specs.Search.{Sweep, Outcome, next, run}
use Rattle.loads.specs.Loads.{boxes}
use Rattle.soft_places.specs.Prices.{soft_relocate_search, soft_relocate_judge}

-- `relocate_improve` where `has_soft_windows`, under a limit: what it leaves, how it ends, and the moves made
unfoldable pub soft_relocate_run : Columns → List ℤ → RouteLimits → ℤ → Float → ℕ → Float → ℕ → List (List ℕ) → Outcome (Sweep (List (List ℕ)) Unit)
soft_relocate_run c demand limits capacity fixed depot floor limit lists =
    let price = effective_cost c limits depot in
    run (next (soft_relocate_search price fixed (boxes demand capacity ∷ [])) (soft_relocate_judge price fixed floor)) limit
    (record { now = lists; ahead = [] })
