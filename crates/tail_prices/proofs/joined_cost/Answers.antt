-- `joined_cost`: the buffer's front is the head and the tail, and the callee prices it.
use mathlib.Core.Path.{ap, ◌∙◌}
use Rattle.evaluation.specs.Route.{effective_cost}
use Rattle.tail_candidates.proofs.Joined.{visits_joined}
use Rattle.tail_prices.proofs.joined_cost.Goals as goal

pub effective_cost-requires : goal.effective_cost-requires
effective_cost-requires c =
    (c.requires.depot_lt_l, rw c.join-end.ensures.joined (visits_joined _ _ _ c.requires.two c.args.cut1 c.args.cut2 c.requires.cut1_in_bounds.0))

pub returns : goal.returns
returns c =
    c.effective_cost.ensures ∙ ap (effective_cost _ _ _) c.join-end.ensures.joined
