-- `travel_time`: one return for each case of the test for times.
use borrow.Author.Tests.{eq-eqb, ne_eqb}
use Rattle.tests.specs.Pick.{picked, other}
use Rattle.day.specs.Matrix.{travel}
use Rattle.day.proofs.matrix.travel_time.Goals as goal

pub returns-then-times-eq0 : goal.returns-then-times-eq0
unfolding travel
returns-then-times-eq0 c =
    picked _ _ _ _ (eq-eqb _ _ c.if-times-eq0.true) c.get.ensures

pub invariant_of-table : goal.invariant_of-table
invariant_of-table c =
    record { square = c.requires.0.of_times c.if-times-eq0.false }

pub returns : goal.returns
unfolding travel
returns c =
    other _ _ _ _ (ne_eqb _ _ c.if-times-eq0.false) c.get-2.ensures
