-- Demand 3 of what `relocate_improve` answers. Its contract says of the lists which the last move left; the dropping of empty lists is the planner's.
-- Assumes nothing.
use mathlib.Core.Bool.{false}
use mathlib.Core.List.{List, [], ◌∷◌}
use Prim.Native.Nat.{ℕ}
use lib.IntN.{ℤ}
use lib.Ieee.{Float}
use Rattle.day.specs.declared.vehicle.RouteLimits.{RouteLimits}
use Rattle.labels.specs.Columns.{Columns}
use Rattle.descent.specs.Permitted.{relocate}
use Rattle.descent.specs.Search.{Sweep, Outcome}
use Rattle.descent.specs.Engines.{run_of}
use Rattle.descent.specs.Claim.{Claim, handed}
use Rattle.descent.specs.Always.{Always}
use Rattle.descent.proofs.Always as every
use Rattle.deltas.specs.Judged.{float_judge, roads_of, WholeMap, Lent}
use Rattle.deltas.proofs.Exact.{float_demand_3}
use Rattle.engine.specs.Engine.{checks_of, map_of}
use Rattle.loads.specs.Loads.{boxes}

-- the run that `relocate_improve` answers
abbrev pub outcome : Columns → List ℤ → RouteLimits → ℤ → Float → ℕ → ℕ → List (List ℕ) → Outcome (Sweep (List (List ℕ)) Unit)
outcome c demand limits capacity fixed depot limit lent =
    run_of (relocate false) (checks_of (boxes demand capacity ∷ []) c limits depot)
    (float_judge (relocate false) (map_of c.l c.distances depot fixed)) limit lent

module _ (c : Columns) (demand : List ℤ) (limits : RouteLimits) (capacity : ℤ) (fixed : Float) (depot limit : ℕ) (lent : List (List ℕ)) where
  -- whatever the numbers
  pub always : let run = outcome c demand limits capacity fixed depot limit lent in
      Always (relocate false) (checks_of (boxes demand capacity ∷ []) c limits depot) limit lent run.last.now (handed (relocate false) run.last.now)
      run.moves run.word
  always = every.always (relocate false) _ (float_judge (relocate false) (map_of c.l c.distances depot fixed)) tt limit lent

  -- and on whole distances
  pub claim : WholeMap (map_of c.l c.distances depot fixed) → Lent c.l lent
      → let run = outcome c demand limits capacity fixed depot limit lent in
      Claim (relocate false) (roads_of (map_of c.l c.distances depot fixed)) (checks_of (boxes demand capacity ∷ []) c limits depot) limit lent
      run.last.now (handed (relocate false) run.last.now) run.moves run.word
  claim whole there =
      float_demand_3 (map_of c.l c.distances depot fixed) whole (relocate false) (checks_of (boxes demand capacity ∷ []) c limits depot) limit lent tt there
