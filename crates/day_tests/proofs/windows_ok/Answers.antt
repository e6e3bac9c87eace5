-- `windows_ok`: the closure asks the definition's test of each location.
use Rattle.std.proofs.Common.{rules, arith}
use borrow.Author.Tests.{tests}
use Rattle.tests.specs.All.{all_none}
use Rattle.tests.proofs.Ranges.{all_in_range}
use Rattle.std.proofs.Common.{ap}
use Rattle.day.specs.Day.{Day}
use Rattle.day.specs.Refusal.{window_ok, windows_ok}
use Rattle.day_tests.proofs.windows_ok.Goals as goal

pub returns : goal.returns
unfolding windows_ok
returns c =
    all_in_range (window_ok c.args.day.now.flags c.args.day.now.ready c.args.day.now.due) _ _ _ _ c.all.ensures.ran (ap (λ (d : Day). d.l) c.day.view_is) (omega arith) (all_none _) (λ k b f called. search (rules, tests))
