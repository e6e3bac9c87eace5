-- `exchange_improve`: the terms are those of the day and the van, so that the run is the definition's.
use mir.Syntax.{w32}
use mir.ValLaws.{to_z-of_z}
use Rattle.descent.specs.Engines.{run_of}
use Rattle.exchange.specs.Rules.{passes_of, judge_of}
use Rattle.exchange.proofs.exchange_improve.Goals as goal

pub returns : goal.returns
unfolding run_of passes_of judge_of
returns c =
    let terms = rw (to_z-of_z w32 c.args.capacity c.ranges.capacity) at c.of-terms.ensures in
    rw terms at c.run_moves.ensures
