-- What a turn of a run makes of the tables: for the contracts of its functions. Assumes nothing.
use Rattle.std.specs.Prelude.{◌≡◌, Bool, true, false, List, [], ℕ, ◌-◌, ◌≤◌, ℤ, length, take, drop, replicate, Float}
use Rattle.std.proofs.Math.Option.{Option, none, some}
use Rattle.edits.specs.Total.{SameVisits}
use Rattle.labels.specs.Columns.{Columns}
use Rattle.descent.specs.Search.{Sweep, taken, next}
use Rattle.fleet.specs.Fleet.{Fleet}
use Rattle.loads.specs.Loads.{Held}
use Rattle.cross_moves.specs.CrossDepot.{Plan, plan_of, after_move, moved, search_of, judge_of}
use Rattle.cross_moves.specs.declared.pair.Move.{Move}
use Rattle.cross_changes.specs.Tables.{Makes, Made}
use Rattle.cross_choices.specs.Scan.{is_found, move_of}
use Rattle.cross_choices.specs.declared.Choice.{Choice}
use Rattle.cross_deltas.specs.Deltas.{KeptIn, kept_of, moved_on}
use Rattle.cross_deltas.specs.declared.KeptDeltas.{KeptDeltas}
use Rattle.cross_steps.specs.declared.Turn.{Turn}
use Rattle.cross_steps.specs.declared.Turn.TheVariants.{NoGain, NoRoom, Left}

-- ---- the tables of a run

-- the plan that the first n lists of the tables are
abbrev pub plan_in : ℕ → List ℕ → List ℕ → List ℕ → List Float → Plan
plan_in n visits lengths ids costs = plan_of visits (take n lengths) (take n ids) (take n costs)

-- the first n entries of the tables are a plan, and behind them there is nothing
pub record Live (l : ℕ) (visits lengths ids : List ℕ) (costs : List Float) (n : ℕ) : Type 0 where
  pub held : Held l visits (take n lengths)
  pub few : n ≤ length lengths
  pub even_ids : length ids ≡ length lengths
  pub even_costs : length costs ≡ length lengths
  pub no_lengths : drop n lengths ≡ replicate (length lengths - n) 0
  pub no_ids : drop n ids ≡ replicate (length lengths - n) 0

-- ---- a move

-- of the choice of a search: it is the definition's, and where there is a move it can be made, and its costs are those of its two lists
pub record Chosen (c : Columns) (demand : List ℤ) (fleet : Fleet) (visits lengths ids : List ℕ) (costs : List Float) (r : Choice) : Type 0 where
  pub taken_is : move_of r ≡ taken (search_of c demand fleet) (judge_of c demand fleet) (plan_of visits lengths ids costs) tt
  pub makes : is_found r ≡ true → Makes visits lengths r.chosen
  pub leads : is_found r ≡ true
      → after_move (plan_of visits lengths ids costs) r.chosen r.cost1 r.cost2 ≡ moved c demand fleet (plan_of visits lengths ids costs) r.chosen

-- a move made in the first n lists of the tables: what stands behind them stays as it is
pub record MadeIn (n : ℕ) (m : Move) (cost1 cost2 : Float) (visits lengths ids : List ℕ) (costs : List Float) (visits' lengths' ids' : List ℕ)
    (costs' : List Float) (kept : ℕ) : Type 0 where
  pub made : Made (plan_in n visits lengths ids costs) m cost1 cost2 visits visits' (take n lengths') (take n ids') (take n costs') kept
  pub other_lengths : drop n lengths' ≡ drop n lengths
  pub other_ids : drop n ids' ≡ drop n ids
  pub other_costs : drop n costs' ≡ drop n costs

module _ (n : ℕ) (visits lengths ids : List ℕ) (costs : List Float) (visits' lengths' ids' : List ℕ) (costs' : List Float) where
  -- nothing was made
  pub record AsWas : Type 0 where
    pub same_visits : visits' ≡ visits
    pub same_lengths : lengths' ≡ lengths
    pub same_ids : ids' ≡ ids
    pub same_costs : costs' ≡ costs

  module _ (deltas deltas' : KeptDeltas) where
    -- a choice's move was made, and so many lists are left
    pub record MadeBest (best : Choice) (left : ℕ) : Type 0 where
      pub made : MadeIn n best.chosen best.cost1 best.cost2 visits lengths ids costs visits' lengths' ids' costs' left
      pub deltas_are : deltas' ≡ moved_on deltas (kept_of n left) best.chosen.one best.chosen.other

    -- a choice's move was made if there is one and room for it
    abbrev pub MadeFound : Bool → Choice → Turn → Type 0
    MadeFound room best NoGain = (is_found best ≡ false) × AsWas
    MadeFound room best NoRoom = (is_found best ≡ true) × (room ≡ false) × AsWas
    MadeFound room best (Left left) = (is_found best ≡ true) × (room ≡ true) × MadeBest best left

-- ---- a turn

module _ (c : Columns) (demand : List ℤ) (fleet : Fleet) where
  -- the run's own step from a plan
  abbrev pub step_from : Plan → Option (Sweep Plan Unit)
  step_from p = next (search_of c demand fleet) (judge_of c demand fleet) (record { now = p; ahead = [] })

  module _ (floor : Float) (l n : ℕ) (visits lengths ids : List ℕ) (costs : List Float) (visits' lengths' ids' : List ℕ) (costs' : List Float)
      (deltas : KeptDeltas) where
    -- a move was made: the tables hold the plan that the step leads to, and the table of least deltas has the pairs that it left as they were
    pub record Moved (left : ℕ) : Type 0 where
      pub leads : step_from (plan_in n visits lengths ids costs) ≡ some (record { now = plan_in left visits' lengths' ids' costs'; ahead = [] })
      pub live : Live l visits' lengths' ids' costs' left
      pub same : SameVisits visits visits'
      pub kept : KeptIn c demand fleet (plan_in left visits' lengths' ids' costs') floor 0 deltas

    -- no move gains if the step leads nowhere, and one that gains is made if there is room
    abbrev pub Turned : Bool → Turn → Type 0
    Turned room NoGain = (step_from (plan_in n visits lengths ids costs) ≡ none) × AsWas n visits lengths ids costs visits' lengths' ids' costs'
    Turned room NoRoom = ((s : Sweep Plan Unit) × (step_from (plan_in n visits lengths ids costs) ≡ some s)) × (room ≡ false)
        × AsWas n visits lengths ids costs visits' lengths' ids' costs'
    Turned room (Left left) = (room ≡ true) × Moved left
