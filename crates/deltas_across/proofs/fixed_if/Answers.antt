-- `fixed_if`: the arm taken is the definition's.
use Rattle.deltas.specs.Changes.{fixed_if}
use lib.Ieee.{of_bits}
use Rattle.deltas_across.proofs.fixed_if.Goals as goal

pub returns-then-counts : goal.returns-then-counts
unfolding fixed_if
returns-then-counts c =
    simp c.if-counts.true

pub returns : goal.returns
unfolding fixed_if of_bits
returns c =
    simp c.if-counts.false
