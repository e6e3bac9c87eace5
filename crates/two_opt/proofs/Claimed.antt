-- Demand 3 of what `two_opt_improve` answers: its run is the definition's, the fixed cost is in no delta of 2-opt, and its list is one list of at most 63
-- visits. Assumes nothing but the premises of demand 3.
use mathlib.Core.Path.{◌≡◌, refl}
use mathlib.Core.List.{List, [], ◌∷◌}
use Prim.Native.Nat.{ℕ, zero, suc, ◌<◌}
use native.Mathlib.Omega.{arith}
use lib.ListN.{length, get_or}
use lib.Ieee.{Float}
use Rattle.numbers.specs.Operations.{zero64}
use Rattle.day.specs.declared.vehicle.RouteLimits.{RouteLimits}
use Rattle.labels.specs.Columns.{Columns, Visits}
use Rattle.descent.specs.Permitted.{two_opt}
use Rattle.descent.specs.Search.{Word, settled, stopped}
use Rattle.descent.specs.Engines.{run_of}
use Rattle.descent.specs.Claim.{Claim}
use Rattle.deltas.specs.Judged.{float_judge, roads_of, WholeMap, Lent}
use Rattle.deltas.proofs.Exact.{float_demand_3}
use Rattle.engine.specs.Engine.{checks_of, map_of, ended_as}

-- an answer tells its word and its moves
answer_tells : (w v : Word) (m n : ℕ) → ended_as w m ≡ ended_as v n → (w ≡ v) × (m ≡ n)
unfolding ended_as
answer_tells settled settled m n e = (refl, cc)
answer_tells stopped stopped m n e = (refl, cc)
answer_tells settled stopped m n e = let z : ◌≡◌ {A = ℕ} 0 1 = cc in absurd (omega arith)
answer_tells stopped settled m n e = let z : ◌≡◌ {A = ℕ} 0 1 = cc in absurd (omega arith)

-- one list is lent
pub lent_one : (l : ℕ) (list : List ℕ) → Visits l list → Lent l (list ∷ [])
lent_one l list v = record { visit_there = there; few = omega (arith, v.few) }
  where
    there : (r k : ℕ) → k < length (get_or (list ∷ []) r []) → get_or (get_or (list ∷ []) r []) k 0 < l
    there zero k h = v.below k h
    there (suc r) k h = absurd (omega arith)

-- where the premises hold, with the van's own fixed cost in distance, the claim holds of the list handed back and of the answer's word and moves
pub claim : (c : Columns) (limits : RouteLimits) (depot : ℕ) (fixed : Float) (limit : ℕ) (list back : List ℕ) (word : Word) (moves : ℕ)
    → WholeMap (map_of c.l c.distances depot fixed) → Visits c.l list
    → (let run = run_of two_opt (checks_of [] c limits depot) (float_judge two_opt (map_of c.l c.distances depot zero64)) limit list
    in (back ≡ run.last.now) × (ended_as word moves ≡ ended_as run.word run.moves))
    → Claim two_opt (roads_of (map_of c.l c.distances depot fixed)) (checks_of [] c limits depot) limit list back back moves word
claim c limits depot fixed limit list back word moves whole visits told =
    let map = map_of c.l c.distances depot fixed in
    let run = run_of two_opt (checks_of [] c limits depot) (float_judge two_opt map) limit list in
    let tells = answer_tells word run.word moves run.moves told.1 in
    rw (told.0, tells.0, tells.1) (float_demand_3 map whole two_opt (checks_of [] c limits depot) limit list tt (lent_one c.l list visits))
