-- `next_to`: one case for each return.
use mathlib.Core.Path.{refl}
use mathlib.Core.Logic.{inl, inr}
use Rattle.neighbours.proofs.relocate.next_to.Goals as goal

pub returns-then-to-from : goal.returns-then-to-from
returns-then-to-from c =
    inl (c.if-to-from.true, refl)

pub returns : goal.returns
returns c =
    inr (c.if-to-from.false, refl)
