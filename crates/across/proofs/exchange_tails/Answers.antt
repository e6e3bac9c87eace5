-- `exchange_tails`: with a soft window the run is `soft_exchange`'s, and without one the engine's.
use mir.ValLaws.{to_z-of_z}
use mir.Syntax.{w32}
use Rattle.across.specs.Across.{exchange_ran, hard_exchange}
use Rattle.across.proofs.exchange_tails.Goals as goal

pub returns-then-has_soft_windows : goal.returns-then-has_soft_windows
unfolding exchange_ran
returns-then-has_soft_windows c =
    rw (
      ← c.has_soft_windows.ensures,
      c.if-has_soft_windows.true,
    ) (rw (to_z-of_z w32
    c.args.capacity c.ranges.capacity) at c.improve.ensures)

pub returns : goal.returns
unfolding exchange_ran hard_exchange
returns c =
    rw (
      ← c.has_soft_windows.ensures,
      c.if-has_soft_windows.false,
    ) (rw (to_z-of_z w32
    c.args.capacity c.ranges.capacity) at c.exchange_improve.ensures)
