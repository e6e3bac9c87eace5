-- `TwoOpt::next_move`: the search is the definition's next move, and leaves it made.
use Rattle.two_opt.proofs.Turning.{searched}
use Rattle.two_opt.proofs.TwoOptEngine.next_move.Goals as goal

pub returns-clause-leads : goal.returns-clause-leads
returns-clause-leads c =
    searched _ _ _ _ c.args.self.now.ahead c.requires.0 c.requires.1 _ c.next_move.ensures
