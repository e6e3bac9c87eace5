-- `OrOpt::make`: the list is the one that the move leads to, of the same visits.
use Rattle.or_opt.proofs.Sizes.{made, made_asked}
use Rattle.or_opt.proofs.OrOptEngine.make.Goals as goal

pub returns-clause-made : goal.returns-clause-made
returns-clause-made c =
    made _ _ _ c.args.found _ c.requires c.move_piece.ensures

pub returns-clause-ready : goal.returns-clause-ready
returns-clause-ready c =
    made_asked _ _ _ c.args.found _ c.requires c.move_piece.ensures
