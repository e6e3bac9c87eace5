-- `place_after`: one arm for each of the three that may go on.
use mathlib.Core.Path.{refl}
use borrow.Author.Tests.{lt-ltb, le-ltb}
use Rattle.tests.specs.Pick.{picked, other}
use Rattle.three_opt.specs.ThreeOpt.{place_after}
use Rattle.three_opt.proofs.place_after.Goals as goal

pub returns-then-place-n : goal.returns-then-place-n
unfolding place_after
returns-then-place-n c =
    picked _ _ _ _ (lt-ltb _ _ c.if-place-n.true) refl

pub returns-then-place-n-2 : goal.returns-then-place-n-2
unfolding place_after
returns-then-place-n-2 c =
    other _ _ _ _ (le-ltb _ _ c.if-place-n.false) (picked _ _ _ _ (lt-ltb _ _ c.if-place-n-2.true) refl)

pub returns : goal.returns
unfolding place_after
returns c =
    other _ _ _ _ (le-ltb _ _ c.if-place-n.false) (other _ _ _ _ (le-ltb _ _ c.if-place-n-2.false) refl)
