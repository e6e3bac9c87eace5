-- `cost_ok`: the number 2^-20 is what the literal's bits say.
use lib.Ieee.{of_bits}
use Rattle.day.specs.Refusal.{cost_ok}
use Rattle.van_refusals.proofs.cost_ok.Goals as goal

pub returns-else-x : goal.returns-else-x
unfolding cost_ok of_bits
returns-else-x c =
    rw (← c.is_plain.ensures.answer, c.if-is_plain.true, c.if-x.false)
