-- `depots_ok`: the closure asks of each depot whether it is a depot location, and the depots' column has an entry a van.
use Rattle.std.proofs.Common.{rules, ap, ◌∙◌}
use borrow.Author.Tests.{tests}
use Rattle.tests.proofs.Slices.{all_in_slice}
use Rattle.day.specs.Refusal.{is_depot}
use Rattle.fleet.specs.Fleet.{Fleet}
use Rattle.fleet.proofs.Refused.{depots_tested}
use Rattle.fleet_refusals.proofs.depots_ok.Goals as goal

pub returns : goal.returns
unfolding is_depot
returns c =
    all_in_slice (is_depot c.args.flags.now) 0 c.args.fleet.now.depots _ _ _ c.all.ensures.ran (c.iter.ensures.rest ∙ ap (λ (f : Fleet). f.depots) c.fleet.view_is)
    (λ k b f called. search (rules, tests))
    ∙ depots_tested _ _ c.requires.0
