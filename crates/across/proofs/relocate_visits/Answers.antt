-- `relocate_visits`: with a soft window the run is `soft_relocate`'s, and without one the engine's, pruned or not.
use Rattle.across.specs.Across.{relocate_ran, hard_relocate}
use mir.ValLaws.{to_z-of_z}
use mir.Syntax.{w32}
use Rattle.across.proofs.relocate_visits.Goals as goal

pub returns-then-has_soft_windows : goal.returns-then-has_soft_windows
unfolding relocate_ran
returns-then-has_soft_windows c =
    rw (
      ← c.has_soft_windows.ensures,
      c.if-has_soft_windows.true,
    ) (rw (to_z-of_z w32
    c.args.capacity c.ranges.capacity) at c.improve.ensures)

pub returns : goal.returns
unfolding relocate_ran hard_relocate
returns c =
    rw (
      ← c.has_soft_windows.ensures,
      c.if-has_soft_windows.false,
    ) (rw (to_z-of_z w32
    c.args.capacity c.ranges.capacity) at c.relocate_improve.ensures)
