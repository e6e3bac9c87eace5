-- `unclocked_distance`: what is driven and the rest of the list make the whole distance; a visit with a window ends it.
use borrow.Author.Rules.{rules}
use mathlib.Core.Path.{refl, sym, ◌∙◌}
use lib.Ieee.{of_bits}
use Rattle.evaluation.specs.Unclocked.{unclocked, unclocked_stops, unclocked_turn, unclocked_end}
use Rattle.evaluation.proofs.unclocked.unclocked_distance.Goals as goal

pub loop-visit-init : goal.loop-visit-init
unfolding unclocked of_bits
loop-visit-init c =
    (search rules, c.requires.1, refl)

pub bounds-flags-visit : goal.bounds-flags-visit
bounds-flags-visit c =
    rw (c.requires.0, c.from-visit.ensures) (c.requires.2.below c.loop-visit.visit-index c.loop-visit-test.true)

pub returns-then-flag1 : goal.returns-then-flag1
returns-then-flag1 c =
    unclocked_stops _ _ _ _ _ _ _ _ c.loop-visit-test.true (sym (rw c.from-visit.ensures at c.flag1.ensures) ∙ c.if-flag1.true) ∙ c.loop-visit.invariant.2

pub loop-visit-preserved : goal.loop-visit-preserved
loop-visit-preserved c = (
  search rules,
  rw c.from-visit.ensures (c.requires.2.below c.loop-visit.visit-index c.loop-visit-test.true),
  rw c.from-visit.ensures (unclocked_turn _ _ _ _ _ _ _ _ _ c.loop-visit-test.true (sym (rw c.from-visit.ensures at c.flag1.ensures) ∙ c.if-flag1.false) (rw c.from-visit.ensures at c.get-distance.ensures) ∙ c.loop-visit.invariant.2),
)

pub returns : goal.returns
returns c =
    unclocked_end _ _ _ _ _ _ _ _ _ c.loop-visit-test.false c.get.ensures ∙ c.loop-visit.invariant.2
