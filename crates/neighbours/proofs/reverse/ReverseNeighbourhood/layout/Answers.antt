-- `Reverse::layout`: the stretch turned round.
use native.Mathlib.Omega.{arith}
use Rattle.neighbours.specs.Places.{Inside}
use Rattle.neighbours.proofs.Layouts.{lays_turned}
use Rattle.neighbours.proofs.reverse.ReverseNeighbourhood.layout.Goals as goal

pub overflow_add-at : goal.overflow_add-at
unfolding Inside
overflow_add-at c =
    omega (arith, c.requires.0)

pub returns : goal.returns
returns c =
    rw c.reversal.ensures (lays_turned _ _ _ c.requires.1)
