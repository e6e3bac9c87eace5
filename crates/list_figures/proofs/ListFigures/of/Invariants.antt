-- `ListFigures::of`: the entries of the lists so far are right.
use Prim.Native.Nat.{◌≤◌}
use lib.ListN.{length}
use Rattle.lists.specs.Table.{lists}
use Rattle.list_figures.specs.Kept.{KeptFigures}
use Rattle.labels.specs.Lent.{lent}
use Rattle.list_figures.proofs.ListFigures.of.Given as goal

abbrev pub invariant-loop-r : goal.invariant-loop-r
invariant-loop-r l =
    (l.r ≤ length l.lengths)
    × KeptFigures (lent l.columns) l.demand l.terms (lists l.visits l.lengths) l.r l.figures.entries
