-- `is_shut`: the closure asks of each mark whether its move is shut.
use Rattle.std.proofs.Common.{rules, arith, refl, get_or}
use Rattle.std.specs.Prelude.{not, false}
use borrow.Author.Tests.{tests}
use Rattle.std.specs.Float.{nan, inf}
use Rattle.std.specs.Float.Ieee.{lt}
use Rattle.tests.specs.All.{all_none}
use Rattle.tests.proofs.Ranges.{all_in_range}
use Rattle.cross_choices.proofs.is_shut.Goals as goal

pub returns : goal.returns
returns c =
    all_in_range (λ k. not (lt (get_or c.args.marks.now k nan) (inf false))) _ _ _ _ c.all.ensures.ran refl (omega arith) (all_none _) (λ k b f called. search (rules, tests))
