-- `Soft::make`: the list is the neighbour, and its cost is known.
use mathlib.Core.Path.{ap}
use Rattle.soft.specs.Pass.{at}
use Rattle.soft.proofs.Moves.{ready_on}
use Rattle.soft.proofs.SoftEngine.make.Goals as goal

pub returns-clause-ready : goal.returns-clause-ready
returns-clause-ready g c =
    ready_on g.N.Neighbourhood.place _ _ _ _ _ _ _ c.requires c.make.ensures c.make.auto.list c.make.auto.buffer
