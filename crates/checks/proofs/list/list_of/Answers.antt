-- `list_of`: a refusal hands back an empty part; otherwise the lists are laid out, so that the list asked for is a part of the table.
use Rattle.std.proofs.Common.{refl, sym}
use Rattle.day.specs.Number.{number_some}
use Rattle.refusals.specs.Answered.{refused_by, answered}
use Rattle.refusals.proofs.NotRefused.{listed}
use Rattle.checks.specs.Answer.{list_answer}
use Rattle.checks.proofs.list.list_of.Goals as goal

pub list_of-requires : goal.list_of-requires
list_of-requires c =
    listed _ _ _ _ _ (sym c.in-Ok.ensures.answer)

pub returns-in-Ok : goal.returns-in-Ok
unfolding list_answer
returns-in-Ok c =
    record { answer = answered _ _ 0 _ _ refl c.in-Ok.ensures.answer c.list_of.ensures }

pub returns-in-Err : goal.returns-in-Err
unfolding list_answer
returns-in-Err c =
    record { answer = refused_by _ _ _ _ (number_some _) c.in-Err.ensures.answer }
