-- `buffers::append` meets its contract. The invariant: the first i visits of the part stand behind the first `count`.
use Rattle.edits.proofs.Chain.{Storing}
use Rattle.buffers.proofs.append.Given as goal

abbrev pub invariant-loop-i : goal.invariant-loop-i
invariant-loop-i l =
    Storing l.count l.part l.initial.buffer l.i l.buffer
