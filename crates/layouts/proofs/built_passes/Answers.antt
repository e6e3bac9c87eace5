-- `built_passes`: the buffer's first visits are the list as it is laid out, and the callee checks them.
use mathlib.Core.Path.{ap, ◌∙◌}
use Rattle.evaluation.specs.Route.{feasible}
use Rattle.layouts.proofs.Layouts.{laid_visits, front-laid}
use Rattle.layouts.proofs.built_passes.Goals as goal

pub route_feasible-requires : goal.route_feasible-requires
route_feasible-requires c =
    (c.requires.0, rw (front-laid _ _ _ c.lay_out.ensures) (laid_visits _ _ _ _ c.requires.2 c.requires.1))

pub returns : goal.returns
returns c =
    c.route_feasible.ensures ∙ ap (feasible _ _ _) (front-laid _ _ _ c.lay_out.ensures)
