-- Demand 3's claim of what `or_opt_improve` answers: its run is the definition's, of which the claim is proved. Assumes nothing.
use mathlib.Core.List.{List, [], ◌∷◌}
use Prim.Native.Nat.{ℕ}
use native.Mathlib.Omega.{arith}
use Rattle.descent.specs.Permitted.{Checks, or_opt, n_minus_length}
use Rattle.descent.specs.Claim.{Claim}
use Rattle.descent.specs.Engines.{run_of}
use Rattle.deltas.specs.Judged.{Map, float_judge, roads_of, WholeMap, Lent}
use Rattle.deltas.proofs.Exact.{float_demand_3}

pub claim : (map : Map) → WholeMap map → (checks : Checks) (limit : ℕ) (lent : List ℕ) → Lent map.l (lent ∷ [])
    → let run = run_of (or_opt n_minus_length) checks (float_judge (or_opt n_minus_length) map) limit lent in
    Claim (or_opt n_minus_length) (roads_of map) checks limit lent run.last.now run.last.now run.moves run.word
claim map whole checks limit lent there = float_demand_3 map whole (or_opt n_minus_length) checks limit lent (λ n p. omega arith) there
