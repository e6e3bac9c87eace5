-- `first_relocation`: the size is the last or as long as the list, and no greater one has a place; or its first piece goes behind the next visit.
use native.Mathlib.Omega.{arith}
use mathlib.Core.Logic.{inl, inr}
use Rattle.neighbours.proofs.Onward.{moved_first, moved_none}
use Rattle.neighbours.proofs.relocate.first_relocation.Goals as goal

pub returns-then-size-eq4 : goal.returns-then-size-eq4
returns-then-size-eq4 c =
    moved_none c.args.n c.args.size (inl (omega arith))

pub returns-then-size-n : goal.returns-then-size-n
returns-then-size-n c =
    moved_first c.args.n c.args.size (omega arith) (omega arith) c.if-size-n.true

pub returns : goal.returns
returns c =
    moved_none _ _ (inr c.if-size-n.false)
