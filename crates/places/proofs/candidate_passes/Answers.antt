-- `candidate_passes`: where no check is needed the definition doesn't ask; else the buffer's front is the candidate, and the callee answers.
use borrow.Author.Tests.{not-true}
use Rattle.tests.specs.All.{off}
use Rattle.engine.specs.Engine.{passing}
use Rattle.edits.proofs.Cuts.{front}
use Rattle.loads.proofs.Visits.{visits_inserted}
use Rattle.places.proofs.candidate_passes.Goals as goal

pub returns-then-not-setup : goal.returns-then-not-setup
unfolding passing
returns-then-not-setup c =
    off _ _ (not-true c.args.setup.needed c.if-not-setup.true)

pub passes-requires : goal.passes-requires
passes-requires c = (
  c.requires.prepared.depot_there,
  rw (front c.inserted_into-end.result c.inserted_into-end.new.buffer _ c.inserted_into-end.ensures.buffer_after)
      (visits_inserted _ c.args.list.now c.args.visit c.args.place c.requires.visits.0 c.requires.visits.1
      c.requires.visits.2),
)
