-- `Reverse::after`: the row goes on, or the next one begins.
use native.Mathlib.Omega.{arith}
use Rattle.neighbours.specs.Places.{Inside}
use Rattle.neighbours.proofs.Onward.{turned_on, turned-row}
use Rattle.neighbours.proofs.reverse.ReverseNeighbourhood.after.Goals as goal

pub overflow_add-last : goal.overflow_add-last
unfolding Inside
overflow_add-last c =
    omega arith

pub overflow_add-result : goal.overflow_add-result
unfolding Inside
overflow_add-result c =
    omega arith

pub returns-then-last-n : goal.returns-then-last-n
returns-then-last-n c =
    turned_on _ _ _ c.requires.1 c.if-last-n.true

pub overflow_add-first : goal.overflow_add-first
unfolding Inside
overflow_add-first c =
    omega arith

pub first_reversal-requires : goal.first_reversal-requires
unfolding Inside
first_reversal-requires c =
    (omega arith, omega arith)

pub returns : goal.returns
returns c =
    turned-row _ _ _ _ c.requires.1 c.if-last-n.false c.first_reversal.ensures
