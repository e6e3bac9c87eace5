-- `extend`: the entries from `from` on, up to here, are the first one; the others are as they were.
use Rattle.cross_choices.proofs.Deciding.{Extending}
use Rattle.cross_choices.proofs.extend.Given as goal

abbrev pub invariant-loop-j : goal.invariant-loop-j
invariant-loop-j l =
    Extending l.initial.costs l.from l.costs l.j
