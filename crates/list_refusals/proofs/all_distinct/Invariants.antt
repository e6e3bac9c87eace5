-- `all_distinct`: proofs/Seen.antt has where the loop stands.
use Rattle.list_refusals.proofs.Seen.{Seen}
use Rattle.list_refusals.proofs.all_distinct.Given as goal

abbrev pub invariant-loop-visit : goal.invariant-loop-visit
invariant-loop-visit l =
    Seen l.visits l.seen l.visit-index
