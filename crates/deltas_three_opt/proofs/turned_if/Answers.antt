-- `turned_if`: the arm taken is the definition's.
use Rattle.deltas.specs.Changes.{turned_if}
use Rattle.deltas_three_opt.proofs.turned_if.Goals as goal

pub returns-then-turned : goal.returns-then-turned
unfolding turned_if
returns-then-turned c =
    simp c.if-turned.true

pub returns : goal.returns
unfolding turned_if
returns c =
    simp c.if-turned.false
