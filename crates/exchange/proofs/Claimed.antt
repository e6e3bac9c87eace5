-- Demand 3's claim of what `exchange_improve` answers: its run is the definition's, of which the claim is proved, and no delta of it reads the fixed cost.
-- Assumes nothing but the premises of demand 3.
use mathlib.Core.List.{List}
use Prim.Native.Nat.{ℕ}
use lib.Ieee.{Float}
use Rattle.numbers.specs.Operations.{zero64}
use Rattle.descent.specs.Permitted.{Checks, tail_exchange}
use Rattle.descent.specs.Claim.{Claim, dropped}
use Rattle.descent.specs.Engines.{run_of}
use Rattle.deltas.specs.Judged.{float_judge, roads_of, WholeMap, Lent}
use Rattle.deltas.proofs.Exact.{float_demand_3}
use Rattle.engine.specs.Engine.{map_of}

-- where the premises hold, with the van's own fixed cost in distance; the planner drops the empty lists
pub claim : (l : ℕ) (distances : List Float) (depot : ℕ) (fixed : Float) (checks : Checks) (limit : ℕ) (lent : List (List ℕ))
    → WholeMap (map_of l distances depot fixed) → Lent l lent
    → let run = run_of tail_exchange checks (float_judge tail_exchange (map_of l distances depot zero64)) limit lent in
    Claim tail_exchange (roads_of (map_of l distances depot fixed)) checks limit lent run.last.now (dropped run.last.now) run.moves run.word
claim l distances depot fixed checks limit lent whole there = float_demand_3 (map_of l distances depot fixed) whole tail_exchange checks limit lent tt there
