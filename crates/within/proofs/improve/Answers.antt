-- `improve`: with a soft window the run is `soft::improve`'s, and without one the engine's.
use Rattle.within.specs.Within.{ran_by}
use Rattle.within.proofs.improve.Goals as goal

pub returns-then-has_soft_windows : goal.returns-then-has_soft_windows
unfolding ran_by
returns-then-has_soft_windows g c =
    rw (← c.has_soft_windows.ensures, c.if-has_soft_windows.true) c.improve.ensures

pub returns : goal.returns
unfolding ran_by
returns g c =
    rw (← c.has_soft_windows.ensures, c.if-has_soft_windows.false) c.improve_hard.ensures
