-- `depots_lead`: the closure asks the definition's test of each location but the last.
use Rattle.std.proofs.Common.{rules, arith, refl}
use borrow.Author.Tests.{tests}
use Rattle.tests.specs.All.{all_none}
use Rattle.tests.proofs.Ranges.{all_in_range}
use Rattle.day.specs.Refusal.{lead_ok, depots_lead}
use Rattle.day_tests.proofs.depots_lead.Goals as goal

pub returns : goal.returns
unfolding depots_lead
returns c =
    all_in_range (lead_ok c.args.flags.now) _ _ _ _ c.all.ensures.ran refl (omega arith) (all_none _) (λ k b f called. search (rules, tests))
