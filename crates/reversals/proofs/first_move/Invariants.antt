-- `first_move`: the first move from the place at hand on is the first from the start on, the list is as it was, and the head reaches no further than the
-- place. The measure is how many places are left.
use mathlib.Core.Path.{◌≡◌}
use lib.ListN.{length}
use Rattle.reversal_places.specs.Places.{Shared}
use Rattle.reversals.specs.Reversals.{InSweep, from, first_turn}
use Rattle.labels.specs.Lent.{lent}
use Rattle.reversals.proofs.first_move.Given as goal

abbrev pub invariant-loop-place : goal.invariant-loop-place
invariant-loop-place l =
    (l.list ≡ l.initial.list) × (l.n ≡ length l.initial.list) × InSweep (length l.initial.list) l.place
    × (let c = lent l.columns in
    Shared c l.terms l.initial.list l.head l.place.first
    × (first_turn c l.terms l.initial.list (from (length l.initial.list) l.place) ≡ first_turn c l.terms l.initial.list (from (length l.initial.list) l.initial.place)))

abbrev pub decreases-loop-place : goal.decreases-loop-place
decreases-loop-place l =
    length (from l.n l.place)
