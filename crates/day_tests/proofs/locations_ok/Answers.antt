-- `locations_ok`: the closure asks the definition's test of each location.
use Rattle.std.proofs.Common.{rules, arith}
use borrow.Author.Tests.{tests}
use Rattle.tests.specs.All.{all_none}
use Rattle.tests.proofs.Ranges.{all_in_range}
use Rattle.std.proofs.Common.{ap}
use Rattle.day.specs.Day.{Day}
use Rattle.day.specs.Refusal.{location_ok, locations_ok}
use Rattle.day_tests.proofs.locations_ok.Goals as goal

pub returns : goal.returns
unfolding locations_ok
returns c =
    all_in_range (location_ok c.args.day.now.flags c.args.day.now.demand c.args.day.now.service c.args.day.now.penalty) _ _ _ _ c.all.ensures.ran (ap (λ (d : Day). d.l) c.day.view_is) (omega arith) (all_none _) (λ k b f called. search (rules, tests))
