-- `boxes_at`: the visit is a location, so that the column has its entry, which is in range.
use native.Mathlib.Omega.{arith}
use Rattle.loads.proofs.boxes_at.Goals as goal

pub boxes_of-requires-clause-visit_in_bounds : goal.boxes_of-requires-clause-visit_in_bounds
boxes_of-requires-clause-visit_in_bounds c =
    omega (arith, c.requires.0.column, c.requires.2)

pub boxes_of-requires-clause-pos_value : goal.boxes_of-requires-clause-pos_value
boxes_of-requires-clause-pos_value c =
    rw c.from-visit.ensures (c.requires.0.in_range _ c.requires.2)

pub returns : goal.returns
returns c =
    rw c.from-visit.ensures at c.boxes_of.ensures.0
