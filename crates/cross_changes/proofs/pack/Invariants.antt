-- `pack`: proofs/Dropping.antt has where the loop stands, its start, its turn and its end.
use Rattle.cross_changes.proofs.Dropping.{Packing}
use Rattle.cross_changes.proofs.pack.Given as goal

abbrev pub invariant-loop-i : goal.invariant-loop-i
invariant-loop-i g l =
    Packing l.none l.lengths l.initial.entries l.entries l.kept l.i
