-- `turn`: the list turned round is a layout of the list, and its check decides whether the reversal is made.
use native.Mathlib.Omega.{arith}
use mathlib.Core.Path.{refl, ap, ◌∙◌}
use Rattle.tests.specs.Pick.{picked, other}
use Rattle.engine.specs.Engine.{passing}
use Rattle.layouts.proofs.Layouts.{reversal_cut, reversal_laid}
use Rattle.reversal_places.proofs.turn.Goals as goal

pub overflow_add-end : goal.overflow_add-end
overflow_add-end c =
    omega (arith, c.requires.first_lt_last.1, c.requires.worked.1.few)

pub laid_passes-laid-requires-clause-depot_lt_l : goal.laid_passes-laid-requires-clause-depot_lt_l
laid_passes-laid-requires-clause-depot_lt_l c = (
  c.requires.worked.0.depot_there,
  c.requires.worked.1,
  rw c.reversal-turned.ensures (reversal_cut _ _ _ (omega (arith, c.requires.first_lt_last.0)) (omega (arith, c.requires.first_lt_last.1))),
)

pub laid_passes-laid-requires-clause-driven : goal.laid_passes-laid-requires-clause-driven
laid_passes-laid-requires-clause-driven c =
    (c.requires.shared.0, rw c.reversal-turned.ensures c.requires.shared.1)

pub reverse-requires-clause-from_le_to : goal.reverse-requires-clause-from_le_to
reverse-requires-clause-from_le_to c =
    omega (arith, c.requires.first_lt_last.0)

pub reverse-requires-clause-to_in_bounds : goal.reverse-requires-clause-to_in_bounds
reverse-requires-clause-to_in_bounds c =
    omega (arith, c.requires.first_lt_last.1)

pub returns-then-laid-clause-value : goal.returns-then-laid-clause-value
returns-then-laid-clause-value c =
    c.laid_passes-laid.ensures ∙ ap (passing _ _ _ _) (reversal_laid _ _ _ _ c.reversal-turned.ensures)

pub returns-then-laid-clause-list_after : goal.returns-then-laid-clause-list_after
returns-then-laid-clause-list_after c =
    picked _ _ _ _ c.if-laid.true c.reverse.ensures

pub returns-else-laid-clause-value : goal.returns-else-laid-clause-value
returns-else-laid-clause-value c =
    c.laid_passes-laid.ensures ∙ ap (passing _ _ _ _) (reversal_laid _ _ _ _ c.reversal-turned.ensures)

pub returns-else-laid-clause-list_after : goal.returns-else-laid-clause-list_after
returns-else-laid-clause-list_after c =
    other _ _ _ _ c.if-laid.false refl
