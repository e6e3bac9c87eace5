-- `cross_depot_improve`: a refusal changes nothing; otherwise the fleet is crewed and the lists are held, and the run is the definition's.
use native.Mathlib.Nat.{not-suc-le-zero}
use Rattle.std.proofs.Common.{refl, sym, ap}
use Rattle.day.specs.Day.{Day}
use Rattle.labels.specs.Columns.{Columns}
use Rattle.refusals.specs.Refusal.{fine_fleet}
use Rattle.rearrangements.proofs.Rearranging.{no_report}
use Rattle.crossings.proofs.Crossing.{asked, crewed, held, refused_cross, ended_cross}
use Rattle.crossings.proofs.cross_depot_improve.Goals as goal

pub returns-in_err-refusal_of_fleet : goal.returns-in_err-refusal_of_fleet
returns-in_err-refusal_of_fleet c =
    let is = refused_cross _ _ _ _ _ _ c.args.limit _ _ c.from_residual.ensures.1 c.in_err-refusal_of_fleet.ensures.answer in
    record { answer = (is.0, is.1, is.2, is.3, (λ f. refl), rw (no_report _ _ c.from_residual.ensures.1).0 (λ k there. absurd (not-suc-le-zero there))) }

pub of-columns-requires : goal.of-columns-requires
of-columns-requires c =
    record { shaped = (fine_fleet _ _ _ _ _ _ (sym c.in_ok-refusal_of_fleet.ensures.answer)).day.shaped }

pub improve-crossed-requires-clause-asked : goal.improve-crossed-requires-clause-asked
improve-crossed-requires-clause-asked c =
    rw (c.of-columns.ensures, ap (λ (d : Day). d.demand) c.day.view_is)
    (asked _ _ _ _ _ _ (fine_fleet _ _ _ _ _ _ (sym c.in_ok-refusal_of_fleet.ensures.answer)))

pub improve-crossed-requires-clause-crewed : goal.improve-crossed-requires-clause-crewed
improve-crossed-requires-clause-crewed c =
    rw (ap (λ (k : Columns). k.l) c.of-columns.ensures)
    (crewed _ _ _ _ _ _ (fine_fleet _ _ _ _ _ _ (sym c.in_ok-refusal_of_fleet.ensures.answer)))

pub improve-crossed-requires-clause-held : goal.improve-crossed-requires-clause-held
improve-crossed-requires-clause-held c =
    rw (ap (λ (k : Columns). k.l) c.of-columns.ensures)
    (held _ _ _ _ _ _ (fine_fleet _ _ _ _ _ _ (sym c.in_ok-refusal_of_fleet.ensures.answer)))

pub returns : goal.returns
returns c =
    record {
      answer = ended_cross _ _ _ _ _ _ _ c.in_ok-refusal_of_fleet.ensures.answer _ c.of-columns.ensures _ _ _ _ _
          (rw (ap (λ (d : Day). d.demand) c.day.view_is) at c.improve-crossed.ensures) c.rearranged_of-rearranged.ensures;
    }
