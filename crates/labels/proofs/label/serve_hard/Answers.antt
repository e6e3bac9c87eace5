-- `serve_hard`: the test of lateness picks.
use mathlib.Core.Path.{refl, sym, ◌∙◌}
use Rattle.tests.specs.Pick.{picked, other}
use Rattle.labels.specs.Label.{served_in}
use Rattle.labels.proofs.label.serve_hard.Goals as goal

pub returns-then-is_violated : goal.returns-then-is_violated
unfolding served_in
returns-then-is_violated c =
    picked _ _ _ _ (sym c.is_violated.ensures ∙ c.if-is_violated.true) refl

pub returns : goal.returns
unfolding served_in
returns c =
    other _ _ _ _ (sym c.is_violated.ensures ∙ c.if-is_violated.false) (rw (← c.begin_at.ensures) c.in_time.ensures)
