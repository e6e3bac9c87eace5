-- `laid_passes`: with no break to take, the list laid out shares the head; else it is built and checked whole.
use borrow.Author.Tests.{not-true, not-false}
use mathlib.Core.Path.{◌∙◌}
use Rattle.tests.specs.All.{off, on}
use Rattle.engine.specs.Engine.{passing}
use Rattle.layouts.proofs.Layouts.{head_kept}
use Rattle.layouts.proofs.Onward.{from_head}
use mathlib.Core.Path.{ap}
use mathlib.Core.Bool.{not}
use Rattle.layouts.proofs.laid_passes.Goals as goal

pub returns-then-not-needed : goal.returns-then-not-needed
unfolding passing
returns-then-not-needed c =
    off _ _ (not-true c.args.needed (ap not c.if-not-needed.true))

pub returns-in-None : goal.returns-in-None
unfolding passing
returns-in-None c =
    on _ _ _ (not-false c.args.needed (ap not c.if-not-needed.false))
    (c.passes_from.ensures
    ∙ from_head _ _ _ _ _ _ c.requires.driven.0 (head_kept _ c.args.list.now c.args.p c.requires.depot_lt_l.2 c.requires.driven.1)
    c.in-None.is)

pub returns-in-Some : goal.returns-in-Some
unfolding passing
returns-in-Some c =
    on _ _ _ (not-false c.args.needed (ap not c.if-not-needed.false)) c.built_passes.ensures
