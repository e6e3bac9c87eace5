-- `passes`: where no check is needed the definition doesn't ask; else the callee answers.
use borrow.Author.Tests.{not-true, not-false}
use Rattle.tests.specs.All.{off, on}
use Rattle.engine.specs.Engine.{passing}
use mathlib.Core.Path.{ap}
use mathlib.Core.Bool.{not}
use Rattle.engine.proofs.passes.Goals as goal

pub returns-then-not-needed : goal.returns-then-not-needed
unfolding passing
returns-then-not-needed c =
    off _ _ (not-true c.args.needed (ap not c.if-not-needed.true))

pub returns : goal.returns
unfolding passing
returns c =
    on _ _ _ (not-false c.args.needed (ap not c.if-not-needed.false))
    c.route_feasible.ensures
