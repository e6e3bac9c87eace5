-- `fixed_cost_in_distance`: one return for each case of the definition's test.
use lib.Ieee.{of_bits}
use mathlib.Core.Path.{refl}
use Rattle.tests.specs.Pick.{picked, other}
use Rattle.day.specs.Vehicle.{fixed_cost_in_distance}
use Rattle.day.proofs.vehicle.Van.fixed_cost_in_distance.Goals as goal

pub returns-then-self : goal.returns-then-self
unfolding fixed_cost_in_distance of_bits
returns-then-self c =
    picked _ _ _ _ c.if-self.true refl

pub returns : goal.returns
unfolding fixed_cost_in_distance of_bits
returns c =
    other _ _ _ _ c.if-self.false refl
