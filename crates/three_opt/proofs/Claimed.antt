-- Demand 3 of what `three_opt_improve` answers, whatever the van's fixed cost and capacities: its run reads neither. Assumes nothing.
use mathlib.Core.List.{List, [], ◌∷◌}
use Prim.Native.Nat.{ℕ}
use lib.Ieee.{Float}
use Rattle.numbers.specs.Operations.{zero64}
use Rattle.day.specs.declared.vehicle.RouteLimits.{RouteLimits}
use Rattle.labels.specs.Columns.{Columns}
use Rattle.descent.specs.Permitted.{Measure, three_opt}
use Rattle.descent.specs.Engines.{run_of}
use Rattle.descent.specs.Claim.{Claim}
use Rattle.deltas.specs.Judged.{float_judge, roads_of, WholeMap, Lent}
use Rattle.deltas.proofs.Exact.{float_demand_3}
use Rattle.engine.specs.Engine.{checks_of, map_of}

pub claim : (c : Columns) (limits : RouteLimits) (depot : ℕ) (fixed : Float) (measures : List Measure) (limit : ℕ) (lent : List ℕ)
    → WholeMap (map_of c.l c.distances depot fixed) → Lent c.l (lent ∷ [])
    → let run = run_of three_opt (checks_of [] c limits depot) (float_judge three_opt (map_of c.l c.distances depot zero64)) limit lent in
    Claim three_opt (roads_of (map_of c.l c.distances depot fixed)) (checks_of measures c limits depot) limit lent run.last.now run.last.now
    run.moves run.word
unfolding run_of
claim c limits depot fixed measures limit lent whole there =
    float_demand_3 (map_of c.l c.distances depot fixed) whole three_opt (checks_of measures c limits depot) limit lent tt there
