-- `any_left`: a label is there where its mark is 1.
use borrow.Author.Tests.{eq-eqb, ne_eqb}
use Rattle.broken_heads.proofs.Heads.{left_is}
use Rattle.broken_heads.proofs.BrokenHead.any_left.Goals as goal

pub returns-then-self-eq1 : goal.returns-then-self-eq1
returns-then-self-eq1 c =
    left_is _ _ (rw (eq-eqb _ _ c.if-self-eq1.true))

pub returns-else-self-eq1 : goal.returns-else-self-eq1
returns-else-self-eq1 c =
    left_is _ _ (rw (ne_eqb _ _ c.if-self-eq1.false))
