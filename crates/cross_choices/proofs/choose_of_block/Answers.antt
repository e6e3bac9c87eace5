-- `choose_of_block`: one return for each side of the test; the row and the place of an entry aren't above it.
use borrow.Author.Tests.{eq-eqb, ne_eqb}
use mathlib.Core.Path.{refl}
use native.Mathlib.Nat.{div-le_self, mod-le}
use native.Mathlib.Omega.{arith}
use Rattle.tests.specs.Pick.{picked, other}
use Rattle.cross_choices.specs.Rows.{chosen_by_block}
use Rattle.cross_choices.proofs.choose_of_block.Goals as goal

pub returns-then-at-count : goal.returns-then-at-count
unfolding chosen_by_block
returns-then-at-count c =
    picked _ _ _ _ (eq-eqb _ _ c.if-at-count.true) refl

pub overflow_add-rows : goal.overflow_add-rows
overflow_add-rows c =
    omega (arith, c.requires.0, c.requires.1, c.requires.2, div-le_self c.args.least.at c.args.rows.width)

pub at-chosen-requires : goal.at-chosen-requires
at-chosen-requires c = (
  omega (arith, c.requires.0, c.requires.1, c.requires.2, div-le_self c.args.least.at c.args.rows.width),
  omega (arith, c.requires.1, c.requires.2, c.if-at-count.false, mod-le c.args.least.at c.args.rows.width),
)

pub returns : goal.returns
unfolding chosen_by_block
returns c =
    rw c.at-chosen.ensures (other _ _ _ _ (ne_eqb _ _ c.if-at-count.false) refl)
