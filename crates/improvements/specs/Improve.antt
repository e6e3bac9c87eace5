-- What the entries that change one list answer and leave: `two_opt_improve`, `or_opt_improve`, `three_opt_improve`. Assumes nothing.
use Rattle.std.specs.Prelude.{ℕ, List, Float, Result, Ok, Err}
use Rattle.std.proofs.Math.Option.{Option, none, some}
use Rattle.day.specs.Day.{Day}
use Rattle.day.specs.Vehicle.{limits_of}
use Rattle.day.specs.declared.refusal.Refusal.{Refusal}
use Rattle.day.specs.declared.vehicle.Van.{Van}
use Rattle.lists.specs.Table.{list_of, with_list}
use Rattle.labels.specs.Columns.{columns_of}
use Rattle.evaluation.specs.Distance.{route_distance}
use Rattle.descent.specs.Search.{Word, settled, stopped}
use Rattle.engine.specs.declared.Ended.{Ended}
use Rattle.engine.specs.declared.Ended.TheVariants as ended
use Rattle.neighbours.specs.Neighbours.{Neighbourhood}
use Rattle.within.specs.Within.{Ran, ran_by}
use Rattle.claims.specs.Demand3.{Report}
use Rattle.refusals.specs.Refusal.{refusal}
use Rattle.refusals.specs.Answered.{unless_refused, refused_as}
use Rattle.improvements.specs.declared.Improved.{Improved}
use Rattle.improvements.specs.declared.Improved.TheVariants as improved

-- the run of an engine on the list asked for
unfoldable pub run_on : Neighbourhood → Day → Van → List ℕ → List ℕ → ℕ → ℕ → Ran
run_on which d van visits lengths list limit = ran_by which (columns_of d) (limits_of van) van.depot limit (list_of visits lengths list)

-- 01: 'An engine answers `settled` or `stopped`, the moves made and, within one list, the distance'
unfoldable pub improved_as : Word → ℕ → Float → Improved
improved_as settled moves distance = improved.Settled moves distance
improved_as stopped moves distance = improved.Stopped moves distance

-- the same of an engine's end
unfoldable pub improved_of : Ended → Float → Improved
improved_of (ended.Settled moves) distance = improved.Settled moves distance
improved_of (ended.Stopped moves) distance = improved.Stopped moves distance

-- so of the list that a run leaves
unfoldable pub answer_of : Day → Van → Ran → Improved
answer_of d van ran = improved_as ran.word ran.moves (route_distance d.l d.distances van.depot ran.list)

-- what is answered
unfoldable pub improve_answer : Neighbourhood → Day → Van → List ℕ → List ℕ → ℕ → ℕ → Result Improved Refusal
improve_answer which d van visits lengths list limit =
    unless_refused (refusal d van visits lengths list) refused_as (Ok (answer_of d van (run_on which d van visits lengths list limit)))

-- and what the table of visits holds then: the new list in the place of the one asked for; a refused call changes nothing
unfoldable pub improve_visits : Neighbourhood → Day → Van → List ℕ → List ℕ → ℕ → ℕ → List ℕ
improve_visits which d van visits lengths list limit =
    unless_refused (refusal d van visits lengths list) (λ n. visits) (with_list visits lengths list (run_on which d van visits lengths list limit).list)

-- the report in an answer, for demand 3's claim
abbrev pub reported : Result Improved Refusal → Option Report
reported (Err r) = none
reported (Ok (improved.Settled moves distance)) = some (record { word = settled; moves = moves })
reported (Ok (improved.Stopped moves distance)) = some (record { word = stopped; moves = moves })
