-- `num_depots`: the count of leading flagged locations, and 1 where it is 0.
use native.Mathlib.Omega.{arith}
use Rattle.day.specs.Customer.{num_depots}
use Rattle.day_scans.proofs.customer.num_depots.Goals as goal

pub returns-then-count-eq0 : goal.returns-then-count-eq0
unfolding num_depots
returns-then-count-eq0 c =
    omega arith

pub returns : goal.returns
unfolding num_depots
returns c =
    omega arith
