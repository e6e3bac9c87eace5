-- The run of a relocate engine by its terms. For the contracts of src/ and of the engines. Assumes nothing.
use Rattle.std.specs.Prelude.{List, [], ℕ}
use Rattle.descent.specs.Search.{Sweep, Outcome, next, run}
use Rattle.relocations.specs.Relocations.{Terms}

-- from some lists on, under a limit: what it leaves, how it ends, and the moves made
unfoldable pub run_by : Terms → ℕ → List (List ℕ) → Outcome (Sweep (List (List ℕ)) Unit)
run_by t limit ls = run (next t.search t.judge) limit (record { now = ls; ahead = [] })
