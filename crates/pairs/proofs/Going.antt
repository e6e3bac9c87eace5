-- A relocate run under way: the moves made and the run that is left are the whole run, so that the choices of the table end it with the run's own answer.
-- Assumes nothing.
use mathlib.Core.Path.{◌≡◌, refl, ◌∙◌}
use mathlib.Core.Bool.{true, false}
use mathlib.Core.List.{List, []}
use Prim.Native.Nat.{ℕ, ◌+◌, ◌≤◌, ◌<◌}
use lib.Ieee.{Float}
use Rattle.lists.specs.Table.{lists}
use Rattle.list_changes.specs.Edits.{Edited, relocated}
use Rattle.descent.specs.Search.{Search, Judge, settled, stopped, taken, next, run}
use Rattle.descent.specs.Across.{Relocation}
use Rattle.descent.proofs.Going.{Going, going_settled, going_stopped, going_moves}
use Rattle.pairs.specs.Pairs.{is_found, move_of}
use Rattle.pairs.specs.declared.Choice.{Choice}
use Rattle.pairs.proofs.Taken.{Relocating, no_next, a_next}

-- ---- the run of a relocate engine, from one set of lists, so many moves on

module _ (search : Search (List (List ℕ)) Unit Relocation) (judge : Judge (List (List ℕ)) Relocation Float) (bound : Float)
    (R : Relocating search judge bound) (limit : ℕ) (first : List (List ℕ)) (moves : ℕ) where
  -- it is at the lists ls
  abbrev pub Running : List (List ℕ) → Type 0
  Running ls = Going (next search judge) limit (record { now = first; ahead = [] }) moves (record { now = ls; ahead = [] })

  module _ (ls : List (List ℕ)) (running : Running ls) (c : Choice) (found : move_of c ≡ taken search judge ls tt) where
    -- where nothing is found, where the limit is used up, and after a move
    pub run_settled : is_found c ≡ false
        → run (next search judge) limit (record { now = first; ahead = [] }) ≡ record { word = settled; moves = moves; last = record { now = ls; ahead = [] } }
    run_settled e = going_settled _ _ _ moves _ running (no_next search judge bound R ls c found e)

    pub run-stopped : is_found c ≡ true → limit ≤ moves
        → run (next search judge) limit (record { now = first; ahead = [] }) ≡ record { word = stopped; moves = moves; last = record { now = ls; ahead = [] } }
    run-stopped e used = going_stopped _ _ _ moves _ _ running used (a_next search judge bound R ls c found e)

    pub run-goes_on : is_found c ≡ true → moves < limit → (ms : List (List ℕ)) → ms ≡ relocated ls c.from c.position c.to c.place
        → Going (next search judge) limit (record { now = first; ahead = [] }) (moves + 1) (record { now = ms; ahead = [] })
    run-goes_on e room ms is = rw is (going_moves _ _ _ moves _ _ running room (a_next search judge bound R ls c found e))

-- ---- the tables of a run

-- one edit more, of what the tables hold now
pub edited_again : (visits lengths visits' lengths' visits'' lengths'' : List ℕ) (ms : List (List ℕ))
    → Edited visits lengths visits' lengths' (lists visits' lengths') → Edited visits' lengths' visits'' lengths'' ms
    → Edited visits lengths visits'' lengths'' (lists visits'' lengths'')
edited_again visits lengths visits' lengths' visits'' lengths'' ms d e = record {
  holds = refl;
  number = e.number ∙ d.number;
  laid = e.laid;
  same = λ f. e.same f ∙ d.same f;
}
