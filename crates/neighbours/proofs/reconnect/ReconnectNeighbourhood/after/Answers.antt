-- `Reconnect::after`: the next way, or the next cut of the innermost loop that has one.
use native.Mathlib.Omega.{arith}
use Rattle.neighbours.specs.Places.{Inside}
use Rattle.neighbours.proofs.Onward.{way_on, cut_on, cut-row, cut_rows}
use Rattle.neighbours.proofs.reconnect.ReconnectNeighbourhood.after.Goals as goal

pub overflow_add-result : goal.overflow_add-result
unfolding Inside
overflow_add-result c =
    omega arith

pub returns-then-way-lt6 : goal.returns-then-way-lt6
returns-then-way-lt6 c =
    way_on _ _ _ _ _ c.requires.1 c.if-way-lt6.true

pub overflow_add-k : goal.overflow_add-k
unfolding Inside
overflow_add-k c =
    omega arith

pub overflow_add-result-then-k-n : goal.overflow_add-result-then-k-n
unfolding Inside
overflow_add-result-then-k-n c =
    omega arith

pub returns-then-k-n : goal.returns-then-k-n
returns-then-k-n c =
    cut_on _ _ _ _ _ c.requires.1 c.if-way-lt6.false c.if-k-n.true

pub overflow_add-j : goal.overflow_add-j
unfolding Inside
overflow_add-j c =
    omega arith

pub overflow_add-result-then-j-n : goal.overflow_add-result-then-j-n
unfolding Inside
overflow_add-result-then-j-n c =
    omega arith

pub overflow_add-result-then-j-n-2 : goal.overflow_add-result-then-j-n-2
unfolding Inside
overflow_add-result-then-j-n-2 c =
    omega arith

pub returns-then-j-n : goal.returns-then-j-n
returns-then-j-n c =
    cut-row _ _ _ _ _ c.requires.1 c.if-way-lt6.false c.if-k-n.false c.if-j-n.true

pub overflow_add-i : goal.overflow_add-i
unfolding Inside
overflow_add-i c =
    omega arith

pub first_reconnection-requires : goal.first_reconnection-requires
unfolding Inside
first_reconnection-requires c =
    (omega arith, omega arith)

pub returns : goal.returns
returns c =
    cut_rows _ _ _ _ _ c.requires.1 _ c.if-way-lt6.false c.if-k-n.false
    c.if-j-n.false c.first_reconnection.ensures
