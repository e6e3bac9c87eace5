-- `vans_ok`: the closure asks the definition's test of each van.
use Rattle.std.proofs.Common.{rules, ap, length, arith}
use borrow.Author.Tests.{tests}
use Rattle.tests.specs.All.{all_none}
use Rattle.tests.proofs.Ranges.{all_in_range}
use Rattle.day.specs.Refusal.{van_ok}
use Rattle.fleet.specs.Fleet.{Fleet, van_at}
use Rattle.fleet.specs.Refusal.{vans_ok}
use Rattle.fleet_refusals.proofs.vans_ok.Goals as goal

pub returns : goal.returns
unfolding vans_ok
returns c =
    all_in_range (λ k. van_ok (van_at c.args.fleet.now k)) _ _ _ _ c.all.ensures.ran (ap (λ (f : Fleet). length f.ids) c.fleet.view_is) (omega arith)
    (all_none _) (λ k b f called. search (rules, tests))
