-- `best_between`: what the positions still ahead come to from the best so far is what all come to from the best at the start.
use Prim.Native.Nat.{◌≤◌}
use Rattle.descent.specs.Order.{range}
use Rattle.segments.specs.Segments.{to_each, Onto}
use Rattle.labels.specs.Lent.{lent}
use Rattle.segment_moves.proofs.best_between.Given as goal

abbrev pub invariant-loop-to : goal.invariant-loop-to
invariant-loop-to l =
    (l.start ≤ l.to)
    × Onto (lent l.columns) l.terms l.list l.initial.found (to_each l.piece.size l.piece.from (range l.start l.end)) l.found
    (to_each l.piece.size l.piece.from (range l.to l.end))
