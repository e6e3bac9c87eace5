-- `exchange_improve`: a refusal changes nothing; otherwise the lists are held and loaded, and the run is the definition's.
use borrow.Author.Rules.{rules}
use mir.ValLaws.{to_z-of_z}
use mir.Syntax.{w32}
use Rattle.std.proofs.Common.{refl, sym, ap}
use Rattle.day.specs.Day.{Day}
use Rattle.labels.specs.Columns.{Columns}
use Rattle.across.specs.Across.{exchange_ran}
use Rattle.refusals.specs.Refusal.{fine_lists}
use Rattle.rearrangements.specs.Rearrange.{run_over}
use Rattle.rearrangements.proofs.Rearranging.{refused_over, rearranged_over, no_report, loaded, held, capacity-there, exchange_claimed}
use Rattle.rearrangements.proofs.exchange_improve.Goals as goal

pub returns-in_err-refusal_of_lists : goal.returns-in_err-refusal_of_lists
returns-in_err-refusal_of_lists c =
    let is = refused_over exchange_ran _ _ _ _ c.args.limit _ _ c.from_residual.ensures.1 c.in_err-refusal_of_lists.ensures.answer in
    record { answer = (is.0, is.1, is.2, (λ f. refl), rw (no_report _ _ c.from_residual.ensures.1).1 tt) }

pub of-columns-requires : goal.of-columns-requires
of-columns-requires c =
    record { shaped = (fine_lists _ _ _ _ (sym c.in_ok-refusal_of_lists.ensures.answer)).day.shaped }

pub exchange_tails-ended-requires-clause-loaded : goal.exchange_tails-ended-requires-clause-loaded
exchange_tails-ended-requires-clause-loaded c =
    rw (ap (λ (k : Columns). k.l) c.of-columns.ensures, ap (λ (d : Day). d.demand) c.day.view_is)
    (loaded _ _ _ _ (fine_lists _ _ _ _ (sym c.in_ok-refusal_of_lists.ensures.answer)))

pub exchange_tails-ended-requires-clause-capacity_value : goal.exchange_tails-ended-requires-clause-capacity_value
exchange_tails-ended-requires-clause-capacity_value c =
    let f = fine_lists _ _ _ _ (sym c.in_ok-refusal_of_lists.ensures.answer) in
    rw (ap (λ (k : Columns). k.l) c.of-columns.ensures, to_z-of_z w32 c.args.van.capacity (search rules)) (capacity-there _ _ _ _ f, f.depot, held _ _ _ _ f)

pub returns : goal.returns
unfolding run_over
returns c =
    let none = c.in_ok-refusal_of_lists.ensures.answer in
    let e = rw (
      to_z-of_z w32
          c.args.van.capacity (search rules),
      c.of-columns.ensures,
      c.of-limits.ensures,
      c.fixed_cost_in_distance-fixed.ensures,
      ap (λ (d : Day). d.demand) c.day.view_is,
    ) at
    c.exchange_tails-ended.ensures in
    let all = rearranged_over exchange_ran _ _ _ _ _ none _ _ _ _ _ _ e.0 e.1 c.drop_lists-remaining.ensures.0
    c.drop_lists-remaining.ensures.1 c.rearranged_of-rearranged.ensures in
    record { answer = (all.0, all.1, all.2, e.0.same, exchange_claimed _ _ _ _ _ none _ _ _ all.0 all.1 all.2) }
