-- `best_piece`: what the pieces still ahead come to from the best so far is what all pieces do from nothing on.
use Prim.Native.Nat.{suc, ◌-◌, ◌≤◌}
use lib.ListN.{length}
use Rattle.descent.specs.Order.{range, each}
use Rattle.segments.specs.Segments.{Onto}
use Rattle.segment_moves.specs.Row.{row}
use Rattle.labels.specs.Lent.{lent}
use Rattle.segment_moves.proofs.best_piece.Given as goal

abbrev pub invariant-loop-from : goal.invariant-loop-from
invariant-loop-from l =
    (l.from ≤ suc (length l.list))
    × Onto (lent l.columns) l.terms l.list l.initial.best (each (range 0 (suc (length l.list - l.size))) (row (length l.list) l.size)) l.best
    (each (range l.from (suc (length l.list - l.size))) (row (length l.list) l.size))
