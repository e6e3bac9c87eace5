-- `mark_row`: the table is filled in from its start; each load is asked by the prefix loads of both lists.
use lib.ListN.{length}
use Rattle.cross_moves.specs.CrossDepot.{holds}
use Rattle.cross_rows.specs.Row.{changed}
use Rattle.cross_choices.specs.Rows.{mark_of}
use Rattle.cross_choices.proofs.Deciding.{Filled}
use Rattle.cross_choices.proofs.mark_row.Given as goal

abbrev pub invariant-loop-j : goal.invariant-loop-j
invariant-loop-j l =
    Filled (λ i. mark_of l.tested (holds l.demand l.one.van (changed l.one.list.now l.own l.other.list.now l.others i)) (holds l.demand l.other.van (changed l.other.list.now l.others l.one.list.now l.own i)))
    (length l.initial.marks) l.marks l.j
