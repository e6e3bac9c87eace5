-- `candidate_passes`: where no check is needed the definition doesn't ask; else the buffer's front is the candidate, and the callee checks it.
use mathlib.Core.Path.{ap, ◌∙◌}
use borrow.Author.Tests.{not-true, not-false}
use Rattle.tests.specs.All.{off, on}
use Rattle.evaluation.specs.Route.{feasible}
use Rattle.engine.specs.Engine.{passing}
use Rattle.edits.proofs.Cuts.{front}
use Rattle.reconnections.proofs.Reconnected.{visits_reconnected}
use Rattle.patterns.proofs.candidate_passes.Goals as goal

pub returns-then-not-setup : goal.returns-then-not-setup
unfolding passing
returns-then-not-setup c =
    off _ _ (not-true c.args.setup.needed c.if-not-setup.true)

pub route_feasible-requires : goal.route_feasible-requires
route_feasible-requires c = (
  c.requires.prepared.depot_there,
  rw (front c.reconnected_into-end.result c.reconnected_into-end.new.buffer _
      c.reconnected_into-end.ensures.buffer_after)
      (visits_reconnected _ _ _ c.requires.inside _ c.requires.visits.0),
)

pub returns : goal.returns
unfolding passing
returns c =
    on _ _ _ (not-false c.args.setup.needed c.if-not-setup.false)
    (c.route_feasible.ensures
    ∙ ap (feasible _ _ _)
    (front c.reconnected_into-end.result c.reconnected_into-end.new.buffer _
    c.reconnected_into-end.ensures.buffer_after))
