-- What the run loop of any engine answers: a run under way (descent's proofs/Going.antt) ends as the whole run does. Assumes nothing.
use mathlib.Core.Path.{◌≡◌}
use mathlib.Core.Option as maybe
use mathlib.Core.Option.{none, some}
use Prim.Native.Nat.{ℕ, ◌≤◌}
use Rattle.descent.specs.Search.{Search, Judge, Sweep, first_move, next, run}
use Rattle.descent.proofs.Loops.{next-ahead, next_sweep}
use Rattle.descent.proofs.Going.{Going, going_settled, going_stopped}
use Rattle.std.specs.Prelude.{Option, Some, None}
use Rattle.engine.specs.Engine.{ended_as, Leads}
use Rattle.engine.specs.declared.Ended.{Ended}
use Rattle.engine.specs.declared.Ended.TheVariants.{Settled, Stopped}

module _ {S : Type 0} (step : S → maybe.Option S) (limit : ℕ) (start : S) where
  -- what the run answers, where it ends at s after so many moves
  abbrev pub Answered : Ended → S → Type 0
  Answered r s = (s ≡ (run step limit start).last) × (r ≡ ended_as (run step limit start).word (run step limit start).moves)

  pub going_settles : (moves : ℕ) (s : S) → Going step limit start moves s → step s ≡ none → Answered (Settled moves) s
  unfolding ended_as
  going_settles moves s g e = let whole = going_settled step limit start moves s g e in (rw whole, rw whole)

  pub going_stops : (moves : ℕ) (s t : S) → Going step limit start moves s → limit ≤ moves → step s ≡ some t → Answered (Stopped moves) s
  unfolding ended_as
  going_stops moves s t g h e = let whole = going_stopped step limit start moves s t g h e in (rw whole, rw whole)

-- what a search answers, by what it found
module _ {State Move : Type 0} (next : maybe.Option State) (old new : State) (apt : Move → Type 0) (before after : Move → State) (found : Option Move)
    (led : Leads next old new apt before after found) where
  pub none_led : found ≡ None → (next ≡ none) × (new ≡ old)
  unfolding Leads
  none_led e = rw e at led

  pub one_led : (move : Move) → found ≡ Some move → apt move × (before move ≡ old) × (next ≡ some (after move))
  unfolding Leads
  one_led move e = rw e at led

-- a search of the places ahead, and of a new sweep where that finds nothing, finds the next move
module _ {State Place Move Value Found : Type 0} (search : Search State Place Move) (judge : Judge State Move Value) (s : Sweep State Place)
    (old new : Sweep State Place) (apt : Found → Type 0) (before after : Found → Sweep State Place) where
  pub led_ahead : (found : Found) → Leads (first_move search judge s.now s.ahead) old new apt before after (Some found)
      → Leads (next search judge s) old new apt before after (Some found)
  unfolding Leads
  led_ahead found led = (led.0, led.1, next-ahead search judge s _ led.2)

  pub led_anew : (found : Option Found) → first_move search judge s.now s.ahead ≡ none
      → Leads (first_move search judge s.now (search.places s.now)) old new apt before after found → Leads (next search judge s) old new apt before after found
  led_anew found e led = rw (next_sweep search judge s e) led
