-- `lateness`: one return for each case of the definition's test.
use lib.Ieee.{of_bits}
use mathlib.Core.Path.{refl}
use Rattle.tests.specs.Pick.{picked, other}
use Rattle.day.specs.Customer.{is_violated, lateness_at}
use Rattle.day.proofs.customer.TimeWindow.lateness.Goals as goal

pub returns-then-arrival-self : goal.returns-then-arrival-self
unfolding is_violated lateness_at
returns-then-arrival-self c =
    picked _ _ _ _ c.if-arrival-self.true refl

pub returns : goal.returns
unfolding is_violated lateness_at of_bits
returns c =
    other _ _ _ _ c.if-arrival-self.false refl
