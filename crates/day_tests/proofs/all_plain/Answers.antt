-- `all_plain`: the numbers of the fours passed, and the closure asks each number behind them.
use Rattle.std.proofs.Common.{rules, refl, get_or}
use borrow.Author.Tests.{tests}
use Rattle.std.specs.Float.{nan}
use Rattle.numbers.specs.Plain.{plain}
use Rattle.tests.proofs.Ranges.{all_in_range}
use Rattle.day.specs.Refusal.{all_plain}
use Rattle.day_tests.proofs.all_plain.Goals as goal

pub returns : goal.returns
unfolding all_plain
returns c =
    all_in_range (λ k. plain (get_or c.args.table.now k nan)) _ _ _ _ c.all.ensures.ran refl c.plain_fours-fours.ensures.0 c.plain_fours-fours.ensures.1 (λ k b f called. search (rules, tests))
