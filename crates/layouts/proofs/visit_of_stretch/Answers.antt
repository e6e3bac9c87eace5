-- `visit_of_stretch`: a stretch is read from its start on, or from its end back.
use mathlib.Core.Path.{◌∙◌}
use Rattle.layouts.proofs.Layouts.{stretch_straight, stretch_turned}
use Rattle.layouts.proofs.visit_of_stretch.Goals as goal

pub returns-then-turned : goal.returns-then-turned
returns-then-turned c =
    rw c.if-turned.true (c.visit_at.ensures ∙ stretch_turned c.args.list.now _ _ _ c.requires.0 c.requires.1 c.requires.2)

pub returns : goal.returns
returns c =
    rw c.if-turned.false (c.visit_at-2.ensures ∙ stretch_straight c.args.list.now _ _ _ c.requires.0 c.requires.2)
