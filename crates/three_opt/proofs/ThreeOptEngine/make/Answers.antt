-- `ThreeOpt::make`: the list is the one that the move leads to, of the same visits.
use mathlib.Core.Path.{ap}
use Rattle.three_opt.specs.ThreeOpt.{at}
use Rattle.three_opt.proofs.Sweeping.{ready_on}
use Rattle.three_opt.proofs.ThreeOptEngine.make.Goals as goal

pub returns-clause-ready : goal.returns-clause-ready
returns-clause-ready c =
    ready_on _ _ _ _ _ _ c.args.found c.requires c.make_move.ensures c.make_move.auto.buffer
