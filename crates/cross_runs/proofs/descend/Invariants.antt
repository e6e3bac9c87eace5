-- `descend`: the moves made and the run that is left are the whole run, the first entries of the tables are the plan, and the table of least deltas has the
-- pairs of old lists; proofs/Going.antt has the start, the turn and the end.
use mathlib.Core.Path.{◌≡◌}
use Prim.Native.Nat.{◌-◌}
use lib.ListN.{length}
use Rattle.edits.specs.Total.{SameVisits}
use Rattle.cross_moves.specs.CrossDepot.{plan_of}
use Rattle.cross_deltas.specs.Deltas.{KeptIn}
use Rattle.cross_steps.specs.Tables.{plan_in, Live}
use Rattle.cross_runs.proofs.Going.{Running}
use Rattle.labels.specs.Lent.{lent}
use Rattle.cross_runs.proofs.descend.Given as goal

abbrev pub invariant-loop-n : goal.invariant-loop-n
invariant-loop-n l =
    Running (lent l.terms.columns.now) l.terms.demand.now l.terms.fleet.now
    l.limit (plan_of l.initial.visits l.initial.lengths l.initial.ids l.initial.costs) l.moves (plan_in l.left l.visits l.lengths l.ids l.costs)
    × Live l.terms.columns.now.locations l.visits l.lengths l.ids l.costs l.left
    × (length l.lengths ≡ length l.initial.lengths)
    × SameVisits l.initial.visits l.visits
    × KeptIn (lent l.terms.columns.now) l.terms.demand.now l.terms.fleet.now (plan_in l.left l.visits l.lengths l.ids l.costs) l.terms.floor 0 l.deltas

abbrev pub decreases-loop-n : goal.decreases-loop-n
decreases-loop-n l =
    l.limit - l.moves
