-- `improve`: the terms are those of the day and the van, so that the run is the definition's.
use mir.Syntax.{w32}
use mir.ValLaws.{to_z-of_z}
use Rattle.lists.proofs.Tables.{length-lists}
use Rattle.soft_exchange.specs.SoftExchange.{soft_exchange_run}
use Rattle.soft_exchange.specs.Rules.{passes_of, judge_of}
use Rattle.soft_exchange.proofs.improve.Goals as goal

pub run_moves-requires-clause-kept : goal.run_moves-requires-clause-kept
run_moves-requires-clause-kept c =
    rw (length-lists c.args.visits.now c.args.lengths.now) c.of-figures.ensures

pub returns : goal.returns
unfolding soft_exchange_run passes_of judge_of
returns c =
    let terms = rw (to_z-of_z w32 c.args.capacity c.ranges.capacity) at c.of-terms.ensures in
    rw terms at c.run_moves.ensures
