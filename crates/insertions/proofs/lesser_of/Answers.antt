-- `lesser_of`: each arm is the definition's case.
use Rattle.insertions.specs.Cache.{lesser}
use Rattle.insertions.proofs.lesser_of.Goals as goal

pub returns-then-cost-least : goal.returns-then-cost-least
unfolding lesser
returns-then-cost-least c =
    rw c.if-cost-least.true

pub returns : goal.returns
unfolding lesser
returns c =
    rw c.if-cost-least.false
