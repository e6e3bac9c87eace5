-- `least_came`: each arm is the definition's case.
use mathlib.Core.Path.{refl}
use borrow.Author.Tests.{eq-eqb, ne_eqb}
use Rattle.tests.specs.Pick.{picked, other}
use Rattle.tests.specs.Pick.{no, yes}
use Rattle.day.specs.Legs.{leg_of}
use Rattle.deltas.specs.Deltas.{insertion_delta}
use Rattle.insertions.specs.Cache.{least_came}
use Rattle.insertions.proofs.Reached.{came_tried}
use mathlib.Core.Path.{ap}
use mathlib.Core.Bool.{not}
use Rattle.insertions.proofs.least_came.Goals as goal

pub returns-then-not-is_finite : goal.returns-then-not-is_finite
unfolding least_came
returns-then-not-is_finite c =
    other _ _ _ _ (no _ _ c.is_finite.ensures.answer (ap not c.if-not-is_finite.true)) refl

pub returns-then-known-position : goal.returns-then-known-position
unfolding least_came
returns-then-known-position c =
    picked _ _ _ _ (yes _ _ c.is_finite.ensures.answer (ap not c.if-not-is_finite.false))
    (picked _ _ _ _ (eq-eqb _ _ c.if-known-position.true) c.forget.ensures)

pub returns : goal.returns
unfolding least_came
returns c =
    picked _ _ _ _ (yes _ _ c.is_finite.ensures.answer (ap not c.if-not-is_finite.false))
    (other _ _ _ _ (ne_eqb _ _ c.if-known-position.false)
    (came_tried c.args.known c.args.position _ c.from-at.ensures _
    (insertion_delta (leg_of c.args.matrix.now) c.args.depot c.args.fixed
    c.args.list.now c.args.visit) _ _ _ _ c.insertion_delta-before.ensures c.insertion_delta-behind.ensures
    c.moved_up.ensures c.first_of-one.ensures c.first_of.ensures))
