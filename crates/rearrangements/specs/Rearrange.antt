-- What the entries across lists answer and leave: `relocate_improve`, `exchange_improve`. Assumes nothing.
use Rattle.std.specs.Prelude.{ℕ, ◌-◌, cond, List, ◌++◌, ltb, length, replicate, Result, Ok, Err}
use Rattle.std.proofs.Math.Option.{Option, none, some}
use Rattle.day.specs.Day.{Day}
use Rattle.day.specs.Vehicle.{limits_of, fixed_cost_in_distance}
use Rattle.day.specs.declared.refusal.Refusal.{Refusal}
use Rattle.day.specs.declared.vehicle.Van.{Van}
use Rattle.lists.specs.Table.{lists, flat, lengths_of}
use Rattle.list_changes.specs.Edits.{nonzero, packed}
use Rattle.labels.specs.Columns.{columns_of}
use Rattle.descent.specs.Search.{Word, settled, stopped}
use Rattle.descent.specs.Claim.{dropped}
use Rattle.engine.specs.declared.Ended.{Ended}
use Rattle.engine.specs.declared.Ended.TheVariants as ended
use Rattle.across.specs.Across.{Ran, Setting, setting_at}
use Rattle.claims.specs.Demand3.{Report}
use Rattle.refusals.specs.Refusal.{refusal_of_lists}
use Rattle.refusals.specs.Answered.{unless_refused, refused_as}
use Rattle.rearrangements.specs.declared.Rearranged.{Rearranged}
use Rattle.rearrangements.specs.declared.Rearranged.TheVariants as rearranged

-- an engine across lists: what it makes of the lists of a day, under a limit
abbrev pub Over : Type 0
Over = Setting → ℕ → List (List ℕ) → Ran

-- what it reads of a day and a van
abbrev pub setting_of : Day → Van → Setting
setting_of d van = setting_at (columns_of d) d.demand (limits_of van) van.capacity (fixed_cost_in_distance van) van.depot

-- its run on the lists lent
unfoldable pub run_over : Over → Day → Van → List ℕ → List ℕ → ℕ → Ran
run_over engine d van visits lengths limit = engine (setting_of d van) limit (lists visits lengths)

-- 01: 'An engine answers `settled` or `stopped`, the moves made'; 'the answer says how many lists remain'
unfoldable pub rearranged_as : Word → ℕ → ℕ → Rearranged
rearranged_as settled moves remaining = rearranged.Settled moves remaining
rearranged_as stopped moves remaining = rearranged.Stopped moves remaining

-- the same of an engine's end
unfoldable pub rearranged_of : Ended → ℕ → Rearranged
rearranged_of (ended.Settled moves) remaining = rearranged.Settled moves remaining
rearranged_of (ended.Stopped moves) remaining = rearranged.Stopped moves remaining

-- what is answered, `dropped` being 'empty lists dropped in order. With fewer than two lists [..] lists return as given'
unfoldable pub over_answer : Ran → Rearranged
over_answer ran = rearranged_as ran.word ran.moves (length (dropped ran.lists))

-- 'Dropped places leave length 0 [..] at the end'
unfoldable pub padded : ℕ → List (List ℕ) → List ℕ
padded n ls = lengths_of ls ++ replicate (n - length ls) 0

-- what an entry answers
unfoldable pub rearrange_answer : Over → Day → Van → List ℕ → List ℕ → ℕ → Result Rearranged Refusal
rearrange_answer engine d van visits lengths limit =
    unless_refused (refusal_of_lists d van visits lengths) refused_as (Ok (over_answer (run_over engine d van visits lengths limit)))

-- and what the tables hold then: the lists handed back, one after another; a refused call changes nothing
unfoldable pub rearrange_visits : Over → Day → Van → List ℕ → List ℕ → ℕ → List ℕ
rearrange_visits engine d van visits lengths limit =
    unless_refused (refusal_of_lists d van visits lengths) (λ n. visits) (flat (dropped (run_over engine d van visits lengths limit).lists))

-- their lengths
unfoldable pub rearrange_lengths : Over → Day → Van → List ℕ → List ℕ → ℕ → List ℕ
rearrange_lengths engine d van visits lengths limit =
    unless_refused (refusal_of_lists d van visits lengths) (λ n. lengths)
    (padded (length lengths) (dropped (run_over engine d van visits lengths limit).lists))

-- ---- the dropping, on the table of lengths alone

-- 'empty lists dropped in order. With fewer than two lists [..] lists return as given'
unfoldable pub lengths_left : List ℕ → List ℕ
lengths_left lengths = cond (ltb (length lengths) 2) lengths (packed lengths)

-- how many lists remain
unfoldable pub number_left : List ℕ → ℕ
number_left lengths = cond (ltb (length lengths) 2) (length lengths) (length (nonzero lengths))

-- ---- what an answer tells

-- the report in an answer, for demand 3's claim
abbrev pub reported_over : Result Rearranged Refusal → Option Report
reported_over (Err r) = none
reported_over (Ok (rearranged.Settled moves remaining)) = some (record { word = settled; moves = moves })
reported_over (Ok (rearranged.Stopped moves remaining)) = some (record { word = stopped; moves = moves })

-- how many lists it says remain
abbrev pub remaining_in : Result Rearranged Refusal → ℕ
remaining_in (Err r) = 0
remaining_in (Ok (rearranged.Settled moves remaining)) = remaining
remaining_in (Ok (rearranged.Stopped moves remaining)) = remaining
