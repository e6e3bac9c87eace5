-- A run that is under way: the moves made and the run that is left are the whole run, so the loop ends with the run's own answer. Each move keeps what the
-- tables have to be. Assumes nothing.
use mathlib.Core.Path.{◌≡◌, ap, ◌∙◌}
use mathlib.Core.Bool.{true, false}
use mathlib.Core.List.{List, []}
use Prim.Native.Nat.{ℕ, ◌+◌, ◌≤◌, ◌<◌}
use lib.ListN.{length}
use lib.Ieee.{Float}
use Rattle.lists.specs.Table.{Laid, lists}
use Rattle.list_changes.specs.Edits.{Edited, Relocates, relocated}
use Rattle.lists.proofs.Tables.{length-lists}
use Rattle.descent.specs.Search.{taken, next}
use Rattle.descent.proofs.Going.{Going}
use Rattle.engine.specs.Engine.{ended_as}
use Rattle.engine.specs.declared.Ended.{Ended}
use Rattle.engine.specs.declared.Ended.TheVariants.{Settled, Stopped}
use Rattle.pairs.specs.Pairs.{is_found, move_of, least_entry}
use Rattle.pairs.specs.declared.Choice.{Choice}
use Rattle.pairs.specs.declared.PairTable.{PairTable}
use Rattle.pairs.proofs.Taken.{relocates, table_taken, taken-there}
use Rattle.pairs.proofs.Going.{run_settled, run-stopped, run-goes_on}
use Rattle.relocations.specs.Relocations.{Terms, Sound, PairsRight, Every}
use Rattle.relocation_runs.specs.Runs.{run_by}

-- so many moves on, the run is at some lists
abbrev pub Running : Terms → ℕ → List (List ℕ) → ℕ → List (List ℕ) → Type 0
Running t limit first moves ls = Going (next t.search t.judge) limit (record { now = first; ahead = [] }) moves (record { now = ls; ahead = [] })

module _ (t : Terms) (sound : Sound t) where
  -- the least entry of a right table is the move that the definition takes
  pub least-taken : (t' : Terms) → t' ≡ t → (visits lengths : List ℕ) (p : PairTable) → PairsRight t (lists visits lengths) (length lengths) Every p
      → (best : Choice) (b : Float) → b ≡ t'.bound → best ≡ least_entry (length lengths) b p → move_of best ≡ taken t.search t.judge (lists visits lengths) tt
  least-taken t' same visits lengths p right best b below is =
      ap move_of (rw (below, same) at is)
      ∙ table_taken t.search t.judge t.bound sound.relocating (lists visits lengths) (length lengths) p (rw (length-lists visits lengths)) right

  -- it can be made
  pub least-there : (visits lengths : List ℕ) → Laid visits lengths → (best : Choice) → move_of best ≡ taken t.search t.judge (lists visits lengths) tt
      → is_found best ≡ true → Relocates visits lengths best.from best.position best.to best.place
  least-there visits lengths laid best found e =
      relocates visits lengths laid _ _ _ _ (taken-there t.search t.judge t.bound sound.relocating (lists visits lengths) best found e)

  module _ (limit : ℕ) (first : List (List ℕ)) (moves : ℕ) (ls : List (List ℕ)) (running : Running t limit first moves ls) (best : Choice)
      (found : move_of best ≡ taken t.search t.judge ls tt) where
    -- what is to be shown of tables and an answer
    abbrev Answered : List ℕ → List ℕ → List ℕ → List ℕ → Ended → Type 0
    Answered visits lengths visits' lengths' r =
        let run = run_by t limit first in Edited visits lengths visits' lengths' run.last.now × (r ≡ ended_as run.word run.moves)

    module _ (visits lengths visits' lengths' : List ℕ) (edited : Edited visits lengths visits' lengths' ls) where
      pub answers_settled : is_found best ≡ false → Answered visits lengths visits' lengths' (Settled moves)
      unfolding run_by ended_as
      answers_settled e =
          let whole = run_settled _ _ t.bound sound.relocating limit first moves ls running best found e in
          (rw whole edited, rw whole)

      pub answers_stopped : is_found best ≡ true → limit ≤ moves → Answered visits lengths visits' lengths' (Stopped moves)
      unfolding run_by ended_as
      answers_stopped e used =
          let whole = run-stopped _ _ t.bound sound.relocating limit first moves ls running best found e used in
          (rw whole edited, rw whole)

    pub goes_on : is_found best ≡ true → moves < limit → (ms : List (List ℕ)) → ms ≡ relocated ls best.from best.position best.to best.place
        → Running t limit first (moves + 1) ms
    goes_on e room ms is = run-goes_on _ _ t.bound sound.relocating limit first moves ls running best found e room ms is
