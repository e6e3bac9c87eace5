-- `run`: the moves made and the rest of the run make the whole run. The measure is what is left of the limit.
use mathlib.Core.Path.{◌≡◌}
use Prim.Native.Nat.{◌-◌}
use Rattle.descent.proofs.Going.{Going}
use Rattle.engine.proofs.run.Given as goal

abbrev pub invariant-loop-next : goal.invariant-loop-next
invariant-loop-next g l =
    g.E.Engine.Ready l.engine
    × (g.E.Engine.frame l.engine ≡ g.E.Engine.frame l.initial.engine)
    × Going (g.E.Engine.next (g.E.Engine.frame l.initial.engine)) l.limit (g.E.Engine.state l.initial.engine) l.moves (g.E.Engine.state l.engine)

abbrev pub decreases-loop-next : goal.decreases-loop-next
decreases-loop-next g l =
    l.limit - l.moves
