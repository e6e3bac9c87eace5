-- `scale`: the largest so far and the rest of the table make the largest of all, also where entries are passed over.
use mathlib.Core.Path.{sym, ◌∙◌}
use lib.Ieee.{of_bits}
use Rattle.day.specs.Matrix.{scale_of, largest_turn, largest_end}
use Rattle.day_scans.proofs.matrix.scale.Goals as goal

pub loop-i-preserved : goal.loop-i-preserved
loop-i-preserved c =
    let whole = sym (largest_turn _ _ _ c.loop-i-test.true) ∙ c.loop-i.invariant.1 in
    (c.next_larger-i-in-loop-i.ensures.lower_bound.1, c.next_larger-i-in-loop-i.ensures.distances_value ∙ rw c.larger_of-most.ensures.answer whole)

pub returns : goal.returns
unfolding scale_of of_bits
returns c =
    sym (largest_end _ _ _ c.loop-i-test.false) ∙ c.loop-i.invariant.1
