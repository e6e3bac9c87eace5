-- `Soft::next_move`: what a pass finds is the definition's next move.
use Rattle.soft.proofs.Moves.{led_nowhere, led_on}
use Rattle.soft.proofs.SoftEngine.next_move.Goals as goal

pub returns-in_default-clause-leads : goal.returns-in_default-clause-leads
returns-in_default-clause-leads g c =
    led_nowhere g.N.Neighbourhood.place _ _ _ _ _ _ _ c.requires c.best_neighbour-best.auto.buffer _ c.best_neighbour-best.ensures.0
    c.best_neighbour-best.ensures.1 c.in_default.is

pub returns-clause-leads : goal.returns-clause-leads
returns-clause-leads g c =
    led_on g.N.Neighbourhood.place _ _ _ _ _ _ _ c.requires c.best_neighbour-best.auto.buffer _ c.best_neighbour-best.ensures.0
    c.best_neighbour-best.ensures.1 _ c.in-Some.is
