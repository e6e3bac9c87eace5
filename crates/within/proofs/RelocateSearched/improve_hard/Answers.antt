-- `Relocate::improve_hard`: the engine's run is the definition's.
use Rattle.within.specs.Within.{hard_ran}
use Rattle.within.proofs.RelocateSearched.improve_hard.Goals as goal

pub returns : goal.returns
unfolding hard_ran
returns c =
    c.or_opt_improve.ensures
