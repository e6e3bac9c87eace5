-- `van_number`: what the library's `position` finds is the number of the first van with the id.
use Rattle.std.proofs.Common.{rules, eqb, ◌∙◌}
use borrow.Author.Tests.{tests}
use Rattle.std.proofs.lemmas.Iterator.{YieldsList-from_slice}
use Rattle.std.proofs.lemmas.Iterator.Search.{position_from_yields_List}
use Rattle.fleet.proofs.Numbered.{number_found}
use Rattle.vehicles.proofs.van_number.Goals as goal

pub returns : goal.returns
returns c =
    c.unwrap_or.ensures
    ∙ number_found _ _ _
    (position_from_yields_List (λ x. eqb x c.args.id) _ _ _ c.position.ensures.ran (YieldsList-from_slice c.args.ids.now (cc)) (λ x b f called. search (rules, tests)))
