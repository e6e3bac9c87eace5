-- `nearest_start`: one arm for each case of the test.
use mathlib.Core.Path.{refl}
use borrow.Author.Tests.{lt-ltb, le-ltb}
use Rattle.tests.specs.Pick.{picked, other}
use Rattle.heads.specs.Head.{nearest}
use Rattle.heads.proofs.nearest_start.Goals as goal

pub returns-then-to-head : goal.returns-then-to-head
unfolding nearest
returns-then-to-head c =
    rw (← c.at_depot.ensures) (picked _ _ _ _ (lt-ltb _ _ c.if-to-head.true) refl)

pub returns : goal.returns
unfolding nearest
returns c =
    other _ _ _ _ (le-ltb _ _ c.if-to-head.false) refl
