-- `all_short`: the closure asks the definition's test of each length.
use Rattle.std.proofs.Common.{rules, leb}
use borrow.Author.Tests.{tests}
use Rattle.tests.proofs.Slices.{all_in_slice}
use Rattle.list_refusals.specs.Refused.{all_short}
use Rattle.list_refusals.proofs.all_short.Goals as goal

pub returns : goal.returns
unfolding all_short
returns c =
    all_in_slice (λ n. leb n 63) 0 c.args.lengths.now _ _ _ c.all.ensures.ran (cc) (λ n b f called. search (rules, tests))
