-- `through_if`: the arm taken is the definition's.
use Rattle.deltas.specs.Changes.{through_if}
use Rattle.deltas_three_opt.proofs.through_if.Goals as goal

pub returns-then-exchanged : goal.returns-then-exchanged
unfolding through_if
returns-then-exchanged c =
    simp c.if-exchanged.true c.through.ensures

pub returns : goal.returns
unfolding through_if
returns c =
    simp c.if-exchanged.false c.through-2.ensures
