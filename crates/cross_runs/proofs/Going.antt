-- A run that is under way: the moves made and the run that is left are the whole run, so the loop ends with the run's own answer. The first n entries of
-- the tables are the plan, and behind them there is nothing. Assumes nothing.
use mathlib.Core.Path.{◌≡◌, sym, ◌∙◌}
use mathlib.Core.Bool.{Bool}
use mathlib.Core.List.{List, []}
use Prim.Native.Nat.{ℕ, ◌+◌, ◌-◌}
use native.Mathlib.Omega.{arith}
use borrow.Author.Tests.{ltb-true, ltb-false}
use lib.Dec.{ltb}
use lib.IntN.{ℤ}
use lib.ListN.{length, take, take-append-drop}
use lib.Seq.{take-length, drop-length}
use lib.Ieee.{Float}
use Rattle.edits.specs.Total.{SameVisits}
use Rattle.lists.specs.Table.{lists}
use Rattle.lists.proofs.Tables.{flat-lists, lengths_lists}
use Rattle.labels.specs.Columns.{Columns}
use Rattle.descent.specs.Search.{Word, settled, stopped, next}
use Rattle.descent.proofs.Going.{Going, going_starts, going_settled, going_stopped, going_moves}
use Rattle.engine.specs.Engine.{ended_as}
use Rattle.engine.specs.declared.Ended.TheVariants.{Settled, Stopped}
use Rattle.fleet.specs.Fleet.{Fleet}
use Rattle.loads.specs.Loads.{Held}
use Rattle.cross_moves.specs.CrossDepot.{Plan, search_of, judge_of, run_of, ran_of, plan_of}
use Rattle.cross_deltas.specs.Deltas.{KeptIn}
use Rattle.cross_deltas.specs.declared.KeptDeltas.{KeptDeltas}
use Rattle.cross_steps.specs.Tables.{plan_in, Live, AsWas, Turned}
use Rattle.cross_steps.specs.declared.Turn.{Turn}
use Rattle.cross_steps.specs.declared.Turn.TheVariants.{NoGain, NoRoom, Left}
use Rattle.cross_steps.proofs.Turns.{lists-now}
use Rattle.cross_runs.specs.Tables.{Handed, crossed_of}
use Rattle.cross_runs.specs.declared.Crossed.{Crossed}

-- ---- the tables during a run

module _ (l : ℕ) (visits lengths ids : List ℕ) (costs : List Float) (held : Held l visits lengths) (even-ids : length ids ≡ length lengths)
    (even-costs : length costs ≡ length lengths) where
  live_start : Live l visits lengths ids costs (length lengths)
  live_start =
      let none : length lengths - length lengths ≡ 0 = omega arith in
      record {
        held = rw (take-length lengths) held;
        few = omega arith;
        even_ids = even-ids;
        even_costs = even-costs;
        no_lengths = rw none (drop-length lengths);
        no_ids = rw (none, ← even-ids) (drop-length ids);
      }

  -- all of them
  all_now : plan_in (length lengths) visits lengths ids costs ≡ plan_of visits lengths ids costs
  all_now =
      let i : take (length lengths) ids ≡ ids = rw (← even-ids) (take-length ids) in
      let k : take (length lengths) costs ≡ costs = rw (← even-costs) (take-length costs) in
      λ t. plan_of visits (take-length lengths t) (i t) (k t)

-- the tables hold the plan, and behind it nothing
handed_now : (l : ℕ) (visits lengths ids : List ℕ) (costs : List Float) (n : ℕ) → Live l visits lengths ids costs n
    → Handed (lists visits (take n lengths)) (take n ids) (length lengths) visits lengths ids
handed_now l visits lengths ids costs n live =
    let add-up = live.held.laid.add_up in
    let many = lists-now l visits lengths ids costs n live in
    record {
      visits_are = sym (flat-lists visits (take n lengths) add-up);
      lengths_are = rw (lengths_lists visits (take n lengths) add-up, many, ← live.no_lengths) (sym (take-append-drop n lengths));
      ids_are = rw (many, ← live.no_ids) (sym (take-append-drop n ids));
    }

-- ---- what the loop answers

module _ (c : Columns) (demand : List ℤ) (fleet : Fleet) (limit : ℕ) (first : Plan) (moves : ℕ) where
  -- after so many moves the run is at a plan
  abbrev pub Running : Plan → Type 0
  Running p = Going (next (search_of c demand fleet) (judge_of c demand fleet)) limit (record { now = first; ahead = [] }) moves (record { now = p; ahead = [] })

  -- what is to be shown of an answer and of the tables
  abbrev pub Answered : Crossed → ℕ → List ℕ → List ℕ → List ℕ → List ℕ → Type 0
  Answered r number visits₀ visits lengths ids =
      let ran = ran_of (run_of c demand fleet limit first) in
      (r ≡ crossed_of ran) × Handed ran.lists ran.ids number visits lengths ids × SameVisits visits₀ visits

  module _ (floor : Float) (l n number : ℕ) (visits₀ visits lengths ids : List ℕ) (costs : List Float) (live : Live l visits lengths ids costs n)
      (many : length lengths ≡ number) (same : SameVisits visits₀ visits) (running : Running (plan_in n visits lengths ids costs))
      (visits' lengths' ids' : List ℕ) (costs' : List Float) (deltas : KeptDeltas) (room : Bool) (room-is : room ≡ ltb moves limit) where
    abbrev Came : Turn → Type 0
    Came = Turned c demand fleet floor l n visits lengths ids costs visits' lengths' ids' costs' deltas room

    -- a run that ended with the word of a turn that made no move
    ends : (word : Word)
        → run_of c demand fleet limit first ≡ record { word = word; moves = moves; last = record { now = plan_in n visits lengths ids costs; ahead = [] } }
        → AsWas n visits lengths ids costs visits' lengths' ids' costs'
        → Answered (record { ended = ended_as word moves; lists = n }) number visits₀ visits' lengths' ids'
    ends word whole was = rw (was.same_visits, was.same_lengths, was.same_ids, ← many) (
      rw (whole, lists-now l visits lengths ids costs n live),
      rw whole (handed_now l visits lengths ids costs n live),
      same,
    )

    -- no move gains
    pub ends_settled : Came NoGain → Answered (record { ended = Settled moves; lists = n }) number visits₀ visits' lengths' ids'
    unfolding run_of ended_as
    ends_settled came = ends settled (going_settled _ _ _ moves _ running came.0) came.1

    -- the limit is used up
    pub ends_stopped : Came NoRoom → Answered (record { ended = Stopped moves; lists = n }) number visits₀ visits' lengths' ids'
    unfolding run_of ended_as
    ends_stopped came =
        ends stopped (going_stopped _ _ _ moves _ _ running (ltb-false _ _ (sym room-is ∙ came.1)) came.0.1) came.2

    -- after a move the run goes on from the plan that the tables then hold
    pub goes_on : (left : ℕ) → Came (Left left)
        → Going (next (search_of c demand fleet) (judge_of c demand fleet)) limit (record { now = first; ahead = [] }) (moves + 1)
        (record { now = plan_in left visits' lengths' ids' costs'; ahead = [] })
        × Live l visits' lengths' ids' costs' left
        × SameVisits visits₀ visits'
        × KeptIn c demand fleet (plan_in left visits' lengths' ids' costs') floor 0 deltas
    goes_on left came =
        let on = came.1 in
        (going_moves _ _ _ moves _ _ running (ltb-true _ _ (sym room-is ∙ came.0)) on.leads, on.live, λ f. on.same f ∙ same f, on.kept)

-- the start of the loop
pub begins : (c : Columns) (demand : List ℤ) (fleet : Fleet) (limit l : ℕ) (visits lengths ids : List ℕ) (costs : List Float) → Held l visits lengths
    → length ids ≡ length lengths → length costs ≡ length lengths
    → Running c demand fleet limit (plan_of visits lengths ids costs) 0 (plan_in (length lengths) visits lengths ids costs)
    × Live l visits lengths ids costs (length lengths)
begins c demand fleet limit l visits lengths ids costs held even-ids even-costs = (
  rw (all_now l visits lengths ids costs held even-ids even-costs) (going_starts _ limit _),
  live_start l visits lengths ids costs held even-ids even-costs,
)
