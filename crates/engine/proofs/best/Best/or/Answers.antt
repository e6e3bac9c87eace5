-- `Best::or`: the test is the definition's.
use mathlib.Core.Path.{refl}
use Rattle.tests.specs.Pick.{picked, other}
use Rattle.engine.specs.Best.{better}
use Rattle.engine.proofs.best.Best.or.Goals as goal

pub returns-then-figure-self : goal.returns-then-figure-self
unfolding better
returns-then-figure-self g c =
    picked _ _ _ _ c.if-figure-self.true refl

pub returns : goal.returns
unfolding better
returns g c =
    other _ _ _ _ c.if-figure-self.false refl
