-- `next_move`: the first move ahead in this sweep or, where there is none, the first of a new one.
use Rattle.lists.proofs.Tables.{length-lists}
use Rattle.exchange_sweeps.proofs.Moves.{is-ahead, is_anew}
use Rattle.exchange_sweeps.proofs.next_move.Goals as goal

pub returns-in-Some-clause-leads : goal.returns-in-Some-clause-leads
returns-in-Some-clause-leads g c =
    is-ahead (g.S.TailSearch.rules c.args.search.now) _ _ (length-lists _ _) _ _ _ c.in-Some.is c.first_move.ensures.leads

pub returns-clause-leads : goal.returns-clause-leads
returns-clause-leads g c =
    is_anew (g.S.TailSearch.rules c.args.search.now) _ _ (length-lists _ _) _ _ _ c.in_default.not-Some c.first_move.ensures.leads
    c.first_move-2.ensures.leads
