-- `waiting_time`: one return for each case of the definition's test.
use lib.Ieee.{of_bits}
use mathlib.Core.Path.{refl}
use Rattle.tests.specs.Pick.{picked, other}
use Rattle.day.specs.Customer.{waiting_time}
use Rattle.day.proofs.customer.TimeWindow.waiting_time.Goals as goal

pub returns-then-arrival-self : goal.returns-then-arrival-self
unfolding waiting_time
returns-then-arrival-self c =
    picked _ _ _ _ c.if-arrival-self.true refl

pub returns : goal.returns
unfolding waiting_time of_bits
returns c =
    other _ _ _ _ c.if-arrival-self.false refl
