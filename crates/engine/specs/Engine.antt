-- What every engine shares: when a candidate passes, what it is judged by, and how a run's end is answered. For the engines' contracts. Assumes nothing.
use Rattle.std.specs.Prelude.{◌≡◌, ℕ, List, Bool, not, ◌||◌, Float, Option, Some, None}
use Rattle.std.proofs.Math.Option as maybe
use Rattle.std.proofs.Math.Option.{none, some}
use Rattle.day.specs.declared.vehicle.RouteLimits.{RouteLimits}
use Rattle.labels.specs.Columns.{Columns}
use Rattle.evaluation.specs.Route.{feasible, checks_needed}
use Rattle.descent.specs.Permitted.{Measure, Checks}
use Rattle.descent.specs.Search.{Word, settled, stopped}
use Rattle.deltas.specs.Judged.{Map}
use Rattle.engine.specs.declared.Ended.{Ended}
use Rattle.engine.specs.declared.Ended.TheVariants.{Settled, Stopped}

-- a list passes, or needn't be asked
unfoldable pub passing : Bool → Columns → RouteLimits → ℕ → List ℕ → Bool
passing needed c limits depot list = not needed || feasible c limits depot list

-- 01, 'Permitted moves': '"Passes" means `route_feasible`, where `route_checks_needed`'
abbrev pub checks_of : List Measure → Columns → RouteLimits → ℕ → Checks
checks_of measures c limits depot = record { measures = measures; passes = passing (checks_needed c.flags limits) c limits depot }

-- what the deltas read: the table, the van's depot and its `fixed_cost_in_distance`
abbrev pub map_of : ℕ → List Float → ℕ → Float → Map
map_of l distances depot fixed = record { l = l; distances = distances; depot = depot; fixed = fixed }

-- 01: 'An engine answers `settled` or `stopped`, the moves made'
unfoldable pub ended_as : Word → ℕ → Ended
ended_as settled moves = Settled moves
ended_as stopped moves = Stopped moves

-- what a search for the next move answers: the definition has none, and the run stands where it stood; or a move that can be made, that leaves what was before it
-- was found, and leads where the definition's does
unfoldable pub Leads : {State Move : Type 0} → maybe.Option State → State → State → (Move → Type 0) → (Move → State) → (Move → State) → Option Move → Type 0
Leads next old new apt before after None = (next ≡ none) × (new ≡ old)
Leads next old new apt before after (Some move) = apt move × (before move ≡ old) × (next ≡ some (after move))

-- what stays the same over a run on one list: the day's columns, the run's constants, which list was lent, and how many visits it has
pub record OneList (Terms : Type 0) : Type 0 where
  pub columns : Columns
  pub terms : Terms
  pub list : ℕ
  pub visits : ℕ
