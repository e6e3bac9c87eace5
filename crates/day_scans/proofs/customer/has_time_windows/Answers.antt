-- `has_time_windows`: the chain asks the definition's test of the flags in their order.
use Rattle.std.proofs.Common.{rules, tests, ◌∙◌}
use Rattle.std.proofs.lemmas.Iterator.{YieldsList-from_slice}
use Rattle.std.proofs.lemmas.Iterator.Search.{any_from_yields_List}
use Rattle.day.specs.Day.{bit1}
use Rattle.day.specs.Customer.{has_time_windows}
use Rattle.day_scans.proofs.Flags.{any_is_some}
use Rattle.day_scans.proofs.customer.has_time_windows.Goals as goal

pub returns : goal.returns
unfolding has_time_windows
returns c =
    any_from_yields_List bit1 _ _ _ c.any.ensures.ran (YieldsList-from_slice c.args.flags.now cc) (λ x b q k. search (rules, tests))
    ∙ any_is_some bit1 c.args.flags.now
