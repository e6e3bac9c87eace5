-- `place_after`: the test that the code makes is the definition's.
use borrow.Author.Tests.{lt-ltb, le-ltb}
use mathlib.Core.Path.{refl}
use Rattle.tests.specs.Pick.{picked, other}
use Rattle.reversal_places.specs.Places.{place_after}
use Rattle.reversal_places.proofs.place_after.Goals as goal

pub returns-then-place-n : goal.returns-then-place-n
unfolding place_after
returns-then-place-n c =
    picked _ _ _ _ (lt-ltb _ _ c.if-place-n.true) refl

pub returns : goal.returns
unfolding place_after
returns c =
    other _ _ _ _ (le-ltb _ _ c.if-place-n.false) refl
