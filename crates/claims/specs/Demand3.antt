-- Demand 3 as the entries' contracts state it: premises on the values lent, and the claim about a whole run. Assumes nothing.
use Rattle.std.specs.Prelude.{ℕ, ◌≡◌, false, [], ◌∷◌, T}
use Rattle.std.proofs.Math.Option.{Option, none, some}
use Rattle.std.specs.Float.Ieee.{eq}
use Rattle.numbers.specs.Operations.{zero64}
use Rattle.numbers.specs.Value.{is_whole}
use Rattle.numbers.specs.Total.{every}
use Rattle.day.specs.Day.{Day}
use Rattle.day.specs.Matrix.{leg}
use Rattle.day.specs.Customer.{has_soft_windows}
use Rattle.day.specs.Vehicle.{limits_of, fixed_cost_in_distance}
use Rattle.day.specs.declared.vehicle.Van.{Van}
use Rattle.labels.specs.Columns.{columns_of}
use Rattle.descent.specs.Permitted.{Checks, Engine, State}
use Rattle.descent.specs.Search.{Word}
use Rattle.descent.specs.Claim.{Claim}
use Rattle.deltas.specs.Judged.{Map, roads_of}
use Rattle.engine.specs.Engine.{checks_of, map_of}
use Rattle.loads.specs.Loads.{boxes}

-- 00, demand 3: 'whole distances up to 16,777,216, zero from the van's depot to itself, a fixed cost worth a whole distance in that range and no soft window'
pub record WholeDay (d : Day) (van : Van) : Type 0 where
  pub distances : T (every (is_whole 16777216) d.distances)
  pub home : T (eq (leg d.l d.distances van.depot van.depot) zero64)
  pub fixed : T (is_whole 16777216 (fixed_cost_in_distance van))
  pub hard : has_soft_windows d.flags ≡ false

-- what the sum of demand 3 is made of: the distances, the van's depot, and its `fixed_cost_in_distance`
abbrev pub map_for : Day → Van → Map
map_for d van = map_of d.l d.distances van.depot (fixed_cost_in_distance van)

-- what a list must meet: the van's capacity, and 'passes'
abbrev pub checks_for : Day → Van → Checks
checks_for d van = checks_of (boxes d.demand van.capacity ∷ []) (columns_of d) (limits_of van) van.depot

-- how a run that wasn't refused says that it ended
pub record Report : Type 0 where
  pub word : Word
  pub moves : ℕ

-- 'for every run of 2-opt, 3-opt, Or-opt, relocate or tail exchange that isn't refused': of the lists lent, those handed back and the report
abbrev pub Claimed : (e : Engine) → Day → Van → ℕ → State e → State e → Option Report → Type 0
Claimed e d van limit lent back none = Unit
Claimed e d van limit lent back (some r) =
    WholeDay d van → (ended : State e) × Claim e (roads_of (map_for d van)) (checks_for d van) limit lent ended back r.moves r.word
