-- `schedule`: an input that is not refused has its list in the table and its columns in shape.
use Rattle.std.specs.Prelude.{Ok}
use Rattle.std.proofs.Common.{refl, sym, ap}
use Rattle.labels.specs.Columns.{Columns}
use Rattle.refusals.specs.Answered.{handed_on, answered}
use Rattle.refusals.proofs.NotRefused.{listed, shaped_day, checkable}
use Rattle.checks.specs.Answer.{schedule_answer}
use Rattle.checks.proofs.check.schedule.Goals as goal

pub returns-in_err-refusal_of : goal.returns-in_err-refusal_of
unfolding schedule_answer
returns-in_err-refusal_of c =
    record { answer = handed_on _ _ _ _ c.from_residual.ensures.1 c.in_err-refusal_of.ensures.answer }

pub list_of-visited-requires : goal.list_of-visited-requires
list_of-visited-requires c =
    listed _ _ _ _ _ (sym c.in_ok-refusal_of.ensures.answer)

pub of-columns-requires : goal.of-columns-requires
of-columns-requires c =
    record { shaped = shaped_day _ _ _ _ _ (sym c.in_ok-refusal_of.ensures.answer) }

pub outcome_of-outcome-requires : goal.outcome_of-outcome-requires
outcome_of-outcome-requires c =
    rw (ap (λ (k : Columns). k.l) c.of-columns.ensures) (checkable _ _ _ _ _ (sym c.in_ok-refusal_of.ensures.answer) _ c.list_of-visited.ensures).1

pub returns : goal.returns
unfolding schedule_answer
returns c =
    record {
      answer = answered _ _ 0 _ _ refl c.in_ok-refusal_of.ensures.answer
          (ap Ok (rw (c.of-columns.ensures, c.list_of-visited.ensures, c.of.ensures) at c.outcome_of-outcome.ensures));
    }
