-- `best_move`: before each first list, the scan from here on comes to the scan over all of them, and the table has the rows before.
use mathlib.Core.Path.{◌≡◌}
use Prim.Native.Nat.{◌*◌}
use lib.ListN.{length}
use Rattle.descent.specs.Order.{range, scan}
use Rattle.cross_choices.specs.Scan.{best_from, best_of, nothing}
use Rattle.cross_moves.specs.Plans.{lent_as}
use Rattle.cross_deltas.specs.Deltas.{Sunk, KeptIn, SameKnown}
use Rattle.labels.specs.Lent.{lent}
use Rattle.cross_search.proofs.best_move.Given as goal

abbrev pub invariant-loop-a : goal.invariant-loop-a
invariant-loop-a l =
    (scan (best_from (lent l.terms.columns.now) l.terms.demand.now l.terms.fleet.now (lent_as l.plan)) (range l.a (length l.plan.lengths.now)) l.found
    ≡ best_of (lent l.terms.columns.now) l.terms.demand.now l.terms.fleet.now (lent_as l.plan) (nothing l.terms.floor))
    × Sunk l.terms.floor l.found
    × KeptIn (lent l.terms.columns.now) l.terms.demand.now l.terms.fleet.now (lent_as l.plan) l.terms.floor (16 * l.a) l.deltas
    × SameKnown l.deltas l.initial.deltas
