-- `TwoOpt::make`: the list stays turned round, and the sweep goes on behind the place.
use Rattle.two_opt.proofs.Turning.{ready_on}
use Rattle.two_opt.proofs.TwoOptEngine.make.Goals as goal

pub returns-clause-ready : goal.returns-clause-ready
returns-clause-ready c =
    ready_on _ _ _ c.args.found _ c.requires c.place_after-self.ensures
