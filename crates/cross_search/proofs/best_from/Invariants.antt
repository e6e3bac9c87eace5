-- `best_from`: before each second list, the scan from here on comes to the scan over all of them, and the table has the pairs before.
use mathlib.Core.Path.{◌≡◌}
use Prim.Native.Nat.{◌+◌, ◌*◌}
use lib.ListN.{length}
use Rattle.descent.specs.Order.{range, scan}
use Rattle.cross_choices.specs.Scan.{best_of_pair, best_from}
use Rattle.cross_moves.specs.Plans.{lent_as}
use Rattle.cross_deltas.specs.Deltas.{Sunk, KeptIn, SameKnown}
use Rattle.labels.specs.Lent.{lent}
use Rattle.cross_search.proofs.best_from.Given as goal

abbrev pub invariant-loop-b : goal.invariant-loop-b
invariant-loop-b l =
    (scan (best_of_pair (lent l.terms.columns.now) l.terms.demand.now l.terms.fleet.now (lent_as l.plan) l.a) (range l.b (length l.plan.lengths.now)) l.found
    ≡ best_from (lent l.terms.columns.now) l.terms.demand.now l.terms.fleet.now (lent_as l.plan) l.a l.initial.found)
    × Sunk l.terms.floor l.found
    × KeptIn (lent l.terms.columns.now) l.terms.demand.now l.terms.fleet.now (lent_as l.plan) l.terms.floor (16 * l.a + l.b) l.deltas
    × SameKnown l.deltas l.initial.deltas
