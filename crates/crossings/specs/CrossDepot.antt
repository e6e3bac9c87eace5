-- What the entry across depots answers and leaves: `cross_depot_improve`. Assumes nothing.
use Rattle.std.specs.Prelude.{ℕ, ◌-◌, List, ◌++◌, length, replicate, Float, Result, Ok}
use Rattle.day.specs.Day.{Day}
use Rattle.day.specs.declared.refusal.Refusal.{Refusal}
use Rattle.fleet.specs.Fleet.{Fleet}
use Rattle.lists.specs.Table.{lists, flat}
use Rattle.labels.specs.Columns.{columns_of}
use Rattle.cross_moves.specs.CrossDepot.{Ran, cross_ran}
use Rattle.refusals.specs.Refusal.{refusal_of_fleet}
use Rattle.refusals.specs.Answered.{unless_refused, refused_as}
use Rattle.rearrangements.specs.Rearrange.{rearranged_as, padded}
use Rattle.rearrangements.specs.declared.Rearranged.{Rearranged}

-- the run on the lists lent, each with the id of its van and its price
unfoldable pub cross_on : Day → Fleet → List ℕ → List ℕ → List ℕ → List Float → ℕ → Ran
cross_on d fleet visits lengths ids prices limit = cross_ran (columns_of d) d.demand fleet limit (lists visits lengths) ids prices

-- 01: 'the answer says how many lists remain'; 'Cross-depot drops empty lists only after a move', so the run itself does
unfoldable pub cross_report : Ran → Rearranged
cross_report ran = rearranged_as ran.word ran.moves (length ran.lists)

-- 'Dropped places leave length 0, and vehicle id 0, at the end': the ids, of n lists lent
unfoldable pub padded_ids : ℕ → Ran → List ℕ
padded_ids n ran = ran.ids ++ replicate (n - length ran.lists) 0

-- what the entry answers
unfoldable pub cross_answer : Day → Fleet → List ℕ → List ℕ → List ℕ → List Float → ℕ → Result Rearranged Refusal
cross_answer d fleet visits lengths ids prices limit =
    unless_refused (refusal_of_fleet d fleet visits lengths ids prices) refused_as (Ok (cross_report (cross_on d fleet visits lengths ids prices limit)))

-- and what the tables hold then: the lists handed back, one after another; a refused call changes nothing
unfoldable pub cross_visits : Day → Fleet → List ℕ → List ℕ → List ℕ → List Float → ℕ → List ℕ
cross_visits d fleet visits lengths ids prices limit =
    unless_refused (refusal_of_fleet d fleet visits lengths ids prices) (λ n. visits) (flat (cross_on d fleet visits lengths ids prices limit).lists)

-- their lengths
unfoldable pub cross_lengths : Day → Fleet → List ℕ → List ℕ → List ℕ → List Float → ℕ → List ℕ
cross_lengths d fleet visits lengths ids prices limit =
    unless_refused (refusal_of_fleet d fleet visits lengths ids prices) (λ n. lengths)
    (padded (length lengths) (cross_on d fleet visits lengths ids prices limit).lists)

-- and the id of each one's van
unfoldable pub cross_ids : Day → Fleet → List ℕ → List ℕ → List ℕ → List Float → ℕ → List ℕ
cross_ids d fleet visits lengths ids prices limit =
    unless_refused (refusal_of_fleet d fleet visits lengths ids prices) (λ n. ids)
    (padded_ids (length lengths) (cross_on d fleet visits lengths ids prices limit))
