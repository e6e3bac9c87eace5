-- `table_of`: a day that is not refused has a square table, so that its symmetry may be asked; the rest is what the callees ensure.
use Rattle.std.proofs.Common.{refl, sym, ap}
use Rattle.day.specs.Day.{Day}
use Rattle.refusals.specs.Refusal.{square_fine}
use Rattle.refusals.specs.Answered.{handed_on, answered}
use Rattle.checks.specs.Answer.{table_answer}
use Rattle.checks.proofs.table.table_of.Goals as goal

pub returns-in_err-day_and_van_refusal : goal.returns-in_err-day_and_van_refusal
unfolding table_answer
returns-in_err-day_and_van_refusal c =
    record { answer = handed_on _ _ _ _ c.from_residual.ensures.1 c.in_err-day_and_van_refusal.ensures.answer }

pub invariant_of-distances : goal.invariant_of-distances
invariant_of-distances c = record {
  square = rw (ap (λ (d : Day). d.l) c.day.view_is, ap (λ (d : Day). d.distances) c.day.view_is)
      (square_fine _ _ (sym c.in_ok-day_and_van_refusal.ensures.answer));
}

pub returns : goal.returns
unfolding table_answer
returns c =
    record {
      answer = answered _ _ 0 _ _ refl c.in_ok-day_and_van_refusal.ensures.answer
          (rw (
            c.gain_floor.ensures.answer,
            c.scale-largest.ensures,
            c.is_symmetric.ensures,
            c.fixed_cost_in_distance.ensures,
            c.num_depots.ensures,
            ← c.day.view_is,
          ));
    }
