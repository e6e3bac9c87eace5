-- `removed_into`: the head and the tail, one behind the other, are the list without the visit.
use native.Mathlib.Omega.{arith}
use Rattle.soft_places.proofs.Laid.{removed}
use Rattle.soft_places.proofs.removed_into.Goals as goal

pub returns-clause-value : goal.returns-clause-value
returns-clause-value c =
    omega (arith, c.requires.0, c.append_stretch-head.ensures.value, c.append_stretch.ensures.value)

pub returns-clause-buffer_after : goal.returns-clause-buffer_after
returns-clause-buffer_after c =
    removed c.args.list.now c.args.position c.append_stretch-head.ensures.appended.filled
    c.append_stretch.ensures.appended.filled
