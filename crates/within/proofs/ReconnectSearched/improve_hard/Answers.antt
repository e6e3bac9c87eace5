-- `Reconnect::improve_hard`: the engine's run is the definition's.
use Rattle.within.specs.Within.{hard_ran}
use Rattle.within.proofs.ReconnectSearched.improve_hard.Goals as goal

pub returns : goal.returns
unfolding hard_ran
returns c =
    c.three_opt_improve.ensures
