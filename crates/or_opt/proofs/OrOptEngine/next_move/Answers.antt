-- `OrOpt::next_move`: the first move ahead in this sweep or, where there is none, the first of a new one.
use Rattle.engine.proofs.Running.{none_led, led_ahead, led_anew}
use Rattle.or_opt.proofs.OrOptEngine.next_move.Goals as goal

pub returns-in-Some-clause-leads : goal.returns-in-Some-clause-leads
returns-in-Some-clause-leads c =
    led_ahead _ _ _ _ _ _ _ _ _ (rw c.in-Some.is at c.first_move-found.ensures)

pub returns-clause-leads : goal.returns-clause-leads
returns-clause-leads c =
    led_anew _ _ _ _ _ _ _ _ _ (none_led _ _ _ _ _ _ _ c.first_move-found.ensures c.in_default.is).0 c.first_move.ensures
