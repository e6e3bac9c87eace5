-- `Relocate::layout`: the piece goes before an earlier visit, or a later one.
use native.Mathlib.Omega.{arith}
use Rattle.neighbours.specs.Places.{Inside}
use Rattle.neighbours.proofs.Layouts.{lays_earlier, lays_later}
use Rattle.neighbours.proofs.relocate.RelocateNeighbourhood.layout.Goals as goal

pub overflow_add-result : goal.overflow_add-result
unfolding Inside
overflow_add-result c =
    omega arith

pub returns-then-at : goal.returns-then-at
returns-then-at c =
    lays_earlier _ _ _ _ c.requires.1 c.if-at.true

pub overflow_add-result-2 : goal.overflow_add-result-2
unfolding Inside
overflow_add-result-2 c =
    omega arith

pub returns : goal.returns
returns c =
    lays_later _ _ _ _ c.requires.1 c.if-at.false
