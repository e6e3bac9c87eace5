-- `reached_as`: one arm for each case of the test.
use mathlib.Core.Path.{refl}
use borrow.Author.Tests.{eq-eqb, ne_eqb}
use Rattle.tests.specs.Pick.{picked, other}
use Rattle.broken_heads.specs.Head.{reached_as}
use Rattle.broken_heads.proofs.reached_as.Goals as goal

pub returns-then-kept-eq1 : goal.returns-then-kept-eq1
unfolding reached_as
returns-then-kept-eq1 c =
    picked _ _ _ _ (eq-eqb _ _ c.if-kept-eq1.true) refl

pub returns : goal.returns
unfolding reached_as
returns c =
    other _ _ _ _ (ne_eqb _ _ c.if-kept-eq1.false) refl
