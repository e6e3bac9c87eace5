-- `moved_passes`: where no check is needed the definition doesn't ask; else the list that is built is walked.
use borrow.Author.Tests.{not-true, not-false}
use Rattle.tests.specs.All.{off, on}
use Rattle.engine.specs.Engine.{passing}
use Rattle.segments.proofs.moved_passes.Goals as goal

pub returns-then-not-terms : goal.returns-then-not-terms
unfolding passing
returns-then-not-terms c =
    off _ _ (not-true c.args.terms.needed c.if-not-terms.true)

pub returns : goal.returns
unfolding passing
returns c =
    on _ _ _ (not-false c.args.terms.needed c.if-not-terms.false) c.candidate_passes.ensures
