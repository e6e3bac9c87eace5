-- The search where a day has a soft window (local_search/soft.rs, 01, Modules, 7): steepest descent over the effective cost in one of three neighbourhoods.
-- For the contract of `improve`, which 2-opt, Or-opt and 3-opt call there. A pass is soft_neighbours' `soft_search` with `soft_judge`. Assumes nothing.
use Rattle.std.specs.Prelude.{ℕ, List, [], Float}
use Rattle.std.proofs.Math.Option.{Option}
use Rattle.day.specs.declared.vehicle.RouteLimits.{RouteLimits}
use Rattle.labels.specs.Columns.{Columns}
use Rattle.evaluation.specs.Route.{effective_cost}
use Rattle.descent.specs.Search.{Sweep, Outcome, next, run}
use Rattle.neighbours.specs.Neighbours.{Neighbourhood}
use Rattle.soft_neighbours.specs.SoftSearch.{soft_search, soft_judge}

-- the next move: the first least of the neighbours that beat the list's effective cost
abbrev pub soft_next : Neighbourhood → Columns → RouteLimits → ℕ → Float → Sweep (List ℕ) Unit → Option (Sweep (List ℕ) Unit)
soft_next which c limits depot floor = next (soft_search which) (soft_judge (effective_cost c limits depot) floor)

-- `soft::improve` under a limit: what it leaves, how it ends, and the moves made
unfoldable pub soft_run : Neighbourhood → Columns → RouteLimits → ℕ → Float → ℕ → List ℕ → Outcome (Sweep (List ℕ) Unit)
soft_run which c limits depot floor limit list = run (soft_next which c limits depot floor) limit (record { now = list; ahead = [] })
