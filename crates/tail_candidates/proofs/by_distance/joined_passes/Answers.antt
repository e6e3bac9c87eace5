-- `joined_passes`: where no check is needed the definition doesn't ask; else the buffer's front is the head and the tail, and the callee answers.
use mathlib.Core.Path.{ap, ◌∙◌}
use Rattle.tests.specs.All.{off, on}
use Rattle.evaluation.specs.Route.{feasible}
use Rattle.engine.specs.Engine.{passing}
use Rattle.tail_candidates.proofs.Joined.{visits_joined}
use Rattle.tail_candidates.proofs.by_distance.joined_passes.Goals as goal

pub returns-then-not-terms : goal.returns-then-not-terms
unfolding passing
returns-then-not-terms c =
    off _ _ c.if-not-terms.true

pub passes-requires : goal.passes-requires
passes-requires c =
    (c.requires.depot_lt_l, rw c.join-end.ensures.joined (visits_joined _ _ _ c.requires.two c.args.cut1 c.args.cut2 c.requires.cut1_in_bounds.0))

pub returns : goal.returns
unfolding passing
returns c =
    on _ _ _ c.if-not-terms.false (c.passes.ensures ∙ ap (feasible _ _ _) c.join-end.ensures.joined)
