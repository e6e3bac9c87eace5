-- `visits_ok`: the closure asks the definition's test of each visit.
use Rattle.std.proofs.Common.{rules}
use borrow.Author.Tests.{tests}
use Rattle.tests.proofs.Slices.{all_in_slice}
use Rattle.list_refusals.specs.Refused.{visit_ok, visits_ok}
use Rattle.list_refusals.proofs.visits_ok.Goals as goal

pub returns : goal.returns
unfolding visits_ok
returns c =
    all_in_slice (visit_ok c.args.depots c.args.l) 0 c.args.visits.now _ _ _ c.all.ensures.ran (cc) (λ v b f called. search (rules, tests))
