-- A sweep that passes from place to place: the next move is the first from the place on, and a place that has none is passed. Assumes nothing.
use mathlib.Core.Path.{◌≡◌, refl, sym, ap, ◌∙◌}
use mathlib.Core.Option.{none, some}
use mathlib.Core.List.{List, [], ◌∷◌}
use Prim.Native.Nat.{ℕ, ◌≤◌, ◌<◌}
use native.Mathlib.Omega.{arith}
use lib.ListN.{length}
use Rattle.std.specs.Prelude.{Option, Some, None}
use Rattle.day.specs.declared.vehicle.RouteLimits.{RouteLimits}
use Rattle.labels.specs.Columns.{Columns}
use Rattle.descent.specs.Search.{Sweep, taken, first_move, next}
use Rattle.descent.specs.Within.{Cut, cuts, reconnect}
use Rattle.descent.proofs.Loops.{place_passed, place_moved, next_sweep}
use Rattle.descent.specs.Permitted.{three_opt}
use Rattle.descent.specs.Engines.{run_of}
use Rattle.numbers.specs.Operations.{zero64}
use Rattle.deltas.specs.Judged.{float_judge}
use Rattle.engine.specs.Engine.{checks_of, map_of, ended_as, Leads}
use Rattle.engine.specs.Best.{found_as}
use Rattle.engine.specs.declared.Ended.{Ended}
use Rattle.engine.specs.declared.Ended.TheVariants.{Settled}
use Rattle.descent.proofs.Going.{going_starts}
use Rattle.engine.proofs.Running.{going_settles}
use Rattle.layouts.specs.declared.Way.{Way}
use Rattle.reconnections.specs.Reconnections.{cut_of, reconnection}
use Rattle.reconnections.specs.declared.Place.{Place}
use Rattle.reconnections.proofs.Reconnected.{length-reconnected, visits_reconnected}
use Rattle.patterns.specs.Patterns.{search_of, judge_of}
use Rattle.patterns.specs.declared.Setup.{Setup}
use Rattle.three_opt.specs.ThreeOpt.{place_after, at, Ready, Apt, after}
use Rattle.three_opt.specs.declared.Reconnection.{Reconnection}
use Rattle.three_opt.proofs.Places.{cuts_from, Standing, cuts_start, cuts-few, standing_start, standing_inside, cuts_turn, standing_turn, cuts_end}

-- ---- one search

module _ (c : Columns) (limits : RouteLimits) (depot : ℕ) (xs : List ℕ) where
  none-there : first_move (search_of c limits depot) (judge_of c depot) xs [] ≡ none
  unfolding first_move
  none-there = refl

  -- a new sweep: the next move is the first of all places that has one
  all_ahead : next (search_of c limits depot) (judge_of c depot) (at xs) ≡ first_move (search_of c limits depot) (judge_of c depot) xs (cuts (length xs))
  unfolding search_of
  all_ahead = next_sweep (search_of c limits depot) (judge_of c depot) (at xs) none-there

  -- where a search stands: what it comes to from a place on
  pub record Sweeping (place : Place) : Type 0 where
    pub rest : next (search_of c limits depot) (judge_of c depot) (at xs)
        ≡ first_move (search_of c limits depot) (judge_of c depot) xs (cuts_from (length xs) place)
    pub standing : Standing (length xs) place

  pub sweep_start : 4 ≤ length xs → Sweeping (record { i = 0; j = 1; k = 2 })
  sweep_start h = record {
    rest = all_ahead ∙ ap (first_move (search_of c limits depot) (judge_of c depot) xs) (cuts_start (length xs) h);
    standing = standing_start (length xs) h;
  }

  -- a list of fewer than 4 visits has no places
  pub few-settled : (limit : ℕ) → length xs < 4
      → (let run = run_of three_opt (checks_of [] c limits depot) (float_judge three_opt (map_of c.l c.distances depot zero64)) limit xs in
      (xs ≡ run.last.now) × (Settled 0 ≡ ended_as run.word run.moves))
  unfolding run_of search_of judge_of ended_as
  few-settled limit h =
      let nothing = all_ahead ∙ ap (first_move (search_of c limits depot) (judge_of c depot) xs) (cuts-few (length xs) h) ∙ none-there in
      let whole = going_settles _ _ _ 0 _ (going_starts _ limit (at xs)) nothing in
      (ap (λ (s : Sweep (List ℕ) Cut). s.now) whole.0, whole.1)

module _ (c : Columns) (s : Setup) (xs buffer : List ℕ) (place : Place) (sweep : Sweeping c s.limits s.depot xs place) where
  -- the sweep is over
  pub sweep_over : length xs ≤ place.k
      → Leads (next (search_of c s.limits s.depot) (judge_of c s.depot) (at xs)) (at xs) (at xs) (Apt c s xs buffer) (λ m. at xs) (after xs) None
  unfolding Leads
  sweep_over h = (
    sweep.rest ∙ ap (first_move (search_of c s.limits s.depot) (judge_of c s.depot) xs) (cuts_end (length xs) place sweep.standing h)
        ∙ none-there c s.limits s.depot xs,
    refl,
  )

  module _ (there : place.k < length xs) (found : Option Way)
      (takes : found_as (reconnection place) found ≡ taken (search_of c s.limits s.depot) (judge_of c s.depot) xs (cut_of place)) where
    here : next (search_of c s.limits s.depot) (judge_of c s.depot) (at xs)
        ≡ first_move (search_of c s.limits s.depot) (judge_of c s.depot) xs (cut_of place ∷ cuts_from (length xs) (place_after (length xs) place))
    here = sweep.rest ∙ ap (first_move (search_of c s.limits s.depot) (judge_of c s.depot) xs) (cuts_turn (length xs) place sweep.standing there)

    -- a place with no move is passed
    pub sweep_passed : found ≡ None → Sweeping c s.limits s.depot xs (place_after (length xs) place)
    unfolding found_as
    sweep_passed e = record {
      rest = here ∙ place_passed (search_of c s.limits s.depot) (judge_of c s.depot) xs (cut_of place) _ (sym takes ∙ ap (found_as (reconnection place)) e);
      standing = standing_turn (length xs) place sweep.standing there;
    }

    -- at one that has a move it is the next
    pub sweep_found : (way : Way) → found ≡ Some way → Ready c s xs buffer
        → Leads (next (search_of c s.limits s.depot) (judge_of c s.depot) (at xs)) (at xs) (at xs) (Apt c s xs buffer) (λ m. at xs) (after xs)
        (Some (record { place = place; way = way }))
    unfolding Leads found_as search_of
    sweep_found way e ready = (
      (ready, standing_inside (length xs) place sweep.standing there),
      refl,
      here ∙ place_moved (search_of c s.limits s.depot) (judge_of c s.depot) xs (cut_of place) _ (reconnection place way)
          (sym takes ∙ ap (found_as (reconnection place)) e),
    )

-- a move that was made leaves a list of the same visits
pub ready_on : (c : Columns) (s : Setup) (xs buffer ys after_buffer : List ℕ) (m : Reconnection) → Apt c s xs buffer m
    → ys ≡ reconnect xs (reconnection m.place m.way) → length after_buffer ≡ length buffer → Ready c s ys after_buffer
ready_on c s xs buffer ys after_buffer m apt e room =
    let long = length-reconnected xs m.place m.way apt.1 in
    let first = apt.0.room in
    let four = apt.0.four in
    rw e (record {
      prepared = apt.0.prepared;
      visits = visits_reconnected xs m.place m.way apt.1 c.l apt.0.visits;
      room = omega (arith, long, first, room);
      four = omega (arith, long, four);
    })
