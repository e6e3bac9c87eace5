-- `lists::list_of` meets its contract: list r ends within the table, since the lengths add up to it. Assumes nothing.
use mathlib.Core.Path.{ap₂}
use Prim.Native.Nat.{◌+◌}
use native.Mathlib.Omega.{arith}
use Rattle.lists.proofs.Tables.{list_within, part_is}
use Rattle.lists.proofs.list_of.Goals as goal

pub overflow_add-end : goal.overflow_add-end
overflow_add-end c =
    omega (
      arith,
      list_within _ _ c.requires.0 c.args.r,
      c.requires.0.size,
      c.start_of-start.ensures,
      c.length_of.ensures.0,
    )

pub offset_bounds-visits-start : goal.offset_bounds-visits-start
offset_bounds-visits-start c =
    omega (
      arith,
      list_within _ _ c.requires.0 c.args.r,
      c.start_of-start.ensures,
      c.length_of.ensures.0,
    )

pub slice_bounds-result-end : goal.slice_bounds-result-end
slice_bounds-result-end c =
    omega (
      arith,
      list_within _ _ c.requires.0 c.args.r,
      c.start_of-start.ensures,
      c.length_of.ensures.0,
    )

pub returns : goal.returns
returns c =
    part_is _ _ _ _ _ c.start_of-start.ensures (ap₂ ◌+◌ c.start_of-start.ensures c.length_of.ensures.0)
