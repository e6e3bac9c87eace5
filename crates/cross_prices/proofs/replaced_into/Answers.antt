-- `replaced_into`: the head, the other's stretch and the tail, one behind the other, are the list.
use native.Mathlib.Omega.{arith}
use Rattle.cross_prices.proofs.Stretch.{built}
use Rattle.cross_prices.proofs.replaced_into.Goals as goal

pub returns-clause-upper_bound : goal.returns-clause-upper_bound
returns-clause-upper_bound c =
    omega (
      arith,
      c.append_stretch-head.ensures.value,
      c.append_stretch-middle.ensures.value,
      c.append_stretch.ensures.value,
      c.append_stretch-head.ensures.appended.same_length,
      c.append_stretch-middle.ensures.appended.same_length,
      c.append_stretch.ensures.appended.same_length,
      c.requires.from_le_to.0,
      c.requires.from_le_to.1,
      c.requires.from_le_to.2,
      c.requires.from_le_to.3,
      c.requires.other_in_bounds,
    )

pub returns-clause-buffer_after : goal.returns-clause-buffer_after
returns-clause-buffer_after c =
    built c.args.list.now _ c.args.from c.args.to c.append_stretch-head.ensures.appended.filled
    c.append_stretch-middle.ensures.appended.filled
    c.append_stretch.ensures.appended.filled
