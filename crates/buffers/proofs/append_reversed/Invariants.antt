-- `buffers::append_reversed` meets its contract. The invariant: the first i visits of the reversed part stand behind the first `count`.
use mathlib.Core.List.{reverse}
use Rattle.edits.proofs.Chain.{Storing}
use Rattle.buffers.proofs.append_reversed.Given as goal

abbrev pub invariant-loop-i : goal.invariant-loop-i
invariant-loop-i l =
    Storing l.count (reverse l.part) l.initial.buffer l.i l.buffer
