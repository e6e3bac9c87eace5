-- `serve_rested`: the test picks whether the break can start; if so, the stop is served after it.
use lib.Ieee.{binary64}
use lib.Ieee.Fits.{add-fits}
use mathlib.Core.Path.{refl}
use Rattle.tests.specs.Pick.{picked, other}
use Rattle.labels.specs.Label.{served_rested}
use Rattle.labels.proofs.label.serve_rested.Goals as goal

pub returns-then-start-rest : goal.returns-then-start-rest
unfolding served_rested
returns-then-start-rest c =
    picked _ _ _ _ (rw c.larger_of-start.ensures.answer at c.if-start-rest.true) refl

pub serve_at-requires : goal.serve_at-requires
serve_at-requires c =
    add-fits binary64 _ _

pub returns : goal.returns
unfolding served_rested
returns c =
    other _ _ _ _ (rw c.larger_of-start.ensures.answer at c.if-start-rest.false) (rw (c.rest_here.ensures, c.larger_of-start.ensures.answer) at c.serve_at.ensures)
