-- `is_violated`: the code's comparison is the definition's, with its sides exchanged.
use mathlib.Core.Path.{refl}
use Rattle.day.specs.Customer.{is_violated}
use Rattle.day.proofs.customer.TimeWindow.is_violated.Goals as goal

pub returns : goal.returns
unfolding is_violated
returns c =
    refl
