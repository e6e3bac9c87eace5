-- `list_changes::drop_empty` meets its contract: proofs/Packing.antt has where the loop stands, its start, its turn and its end. Assumes nothing.
use Rattle.list_changes.proofs.Packing.{Packing}
use Rattle.list_changes.proofs.drop_empty.Given as goal

abbrev pub invariant-loop-i : goal.invariant-loop-i
invariant-loop-i l =
    Packing l.initial.lengths l.lengths l.kept l.i
