-- `is_vanished`: each side of the test is the definition's case.
use borrow.Author.Tests.{eq-eqb, ne_eqb}
use Rattle.insertions.specs.Cache.{vanished}
use Rattle.insertions.proofs.is_vanished.Goals as goal

pub returns-then-place-position : goal.returns-then-place-position
unfolding vanished
returns-then-place-position c =
    rw (eq-eqb _ _ c.if-place-position.true)

pub returns-else-place-position : goal.returns-else-place-position
unfolding vanished
returns-else-place-position c =
    rw (ne_eqb _ _ c.if-place-position.false)
