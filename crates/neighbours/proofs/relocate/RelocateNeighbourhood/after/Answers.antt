-- `Relocate::after`: the piece goes on, or the next piece begins, or the next size does.
use native.Mathlib.Omega.{arith}
use Rattle.neighbours.specs.Places.{Inside}
use Rattle.neighbours.proofs.Onward.{moved_on, moved_row, moved_size}
use Rattle.neighbours.proofs.relocate.RelocateNeighbourhood.after.Goals as goal

pub next_to-to-requires : goal.next_to-to-requires
unfolding Inside
next_to-to-requires c =
    (omega arith, omega arith, omega arith)

pub returns-then-to-n : goal.returns-then-to-n
returns-then-to-n c =
    moved_on _ _ _ _ _ c.requires.1 c.next_to-to.ensures c.if-to-n.true

pub overflow_add-from : goal.overflow_add-from
unfolding Inside
overflow_add-from c =
    omega arith

pub overflow_add-result : goal.overflow_add-result
unfolding Inside
overflow_add-result c =
    omega arith

pub returns-then-from-size : goal.returns-then-from-size
returns-then-from-size c =
    moved_row _ _ _ _ _ c.requires.1 c.next_to-to.ensures c.if-to-n.false c.if-from-size.true

pub overflow_add-size : goal.overflow_add-size
unfolding Inside
overflow_add-size c =
    omega arith

pub first_relocation-requires : goal.first_relocation-requires
unfolding Inside
first_relocation-requires c =
    (omega arith, omega arith, omega arith)

pub returns : goal.returns
returns c =
    moved_size _ _ _ _ _ c.requires.1 c.next_to-to.ensures _ c.if-to-n.false
    c.if-from-size.false c.first_relocation.ensures
