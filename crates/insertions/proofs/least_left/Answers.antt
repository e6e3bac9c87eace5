-- `least_left`: each arm is the definition's case.
use mathlib.Core.Path.{refl, sym, ◌∙◌}
use Rattle.tests.specs.Pick.{picked, other}
use Rattle.tests.specs.Pick.{no, yes}
use Rattle.day.specs.Legs.{leg_of}
use Rattle.deltas.specs.Deltas.{insertion_delta}
use Rattle.insertions.specs.Cache.{least_left}
use Rattle.insertions.proofs.Reached.{left_tried}
use mathlib.Core.Path.{ap}
use mathlib.Core.Bool.{not}
use Rattle.insertions.proofs.least_left.Goals as goal

pub returns-then-not-is_finite : goal.returns-then-not-is_finite
unfolding least_left
returns-then-not-is_finite c =
    other _ _ _ _ (no _ _ c.is_finite.ensures.answer (ap not c.if-not-is_finite.true)) refl

pub returns-then-is_vanished : goal.returns-then-is_vanished
unfolding least_left
returns-then-is_vanished c =
    picked _ _ _ _ (yes _ _ c.is_finite.ensures.answer (ap not c.if-not-is_finite.false))
    (picked _ _ _ _ (sym c.is_vanished.ensures ∙ c.if-is_vanished.true) c.forget.ensures)

pub returns : goal.returns
unfolding least_left
returns c =
    picked _ _ _ _ (yes _ _ c.is_finite.ensures.answer (ap not c.if-not-is_finite.false))
    (other _ _ _ _ (sym c.is_vanished.ensures ∙ c.if-is_vanished.false)
    (left_tried c.args.known c.args.position _ c.from.ensures _
    (insertion_delta (leg_of c.args.matrix.now) c.args.depot c.args.fixed
    c.args.list.now c.args.visit) _ _ c.insertion_delta-figure.ensures c.moved_down.ensures
    c.first_of.ensures))
