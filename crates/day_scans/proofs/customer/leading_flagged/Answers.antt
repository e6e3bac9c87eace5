-- `leading_flagged`: the chain counts the flags before the first that isn't set.
use Rattle.std.proofs.Common.{rules, tests, ◌∙◌}
use Rattle.std.proofs.lemmas.Iterator.{YieldsList-from_slice}
use Rattle.std.proofs.lemmas.Iterator.Search.{YieldsList-from_take_while}
use Rattle.std.proofs.lemmas.Iterator.Consumers.{count_from_yields_List}
use Rattle.std.proofs.lemmas.List.Folds.{length-prefix_len}
use Rattle.day.specs.Day.{bit0}
use Rattle.day_scans.proofs.Flags.{prefix_is_leading}
use Rattle.day_scans.proofs.customer.leading_flagged.Goals as goal

pub returns : goal.returns
returns c =
    count_from_yields_List c.take_while.result _ c.count.ensures.ran
    (YieldsList-from_take_while _ bit0 (YieldsList-from_slice c.args.flags.now cc) c.take_while.ensures.closure c.take_while.ensures.done
    (λ x b q k. search (rules, tests)))
    ∙ length-prefix_len bit0 c.args.flags.now ∙ prefix_is_leading c.args.flags.now
