-- `plus_if`: the arm taken is the definition's.
use Rattle.deltas.specs.Changes.{plus_if}
use Rattle.deltas_three_opt.proofs.plus_if.Goals as goal

pub returns-then-turned : goal.returns-then-turned
unfolding plus_if
returns-then-turned c =
    simp c.if-turned.true

pub returns : goal.returns
unfolding plus_if
returns c =
    simp c.if-turned.false
