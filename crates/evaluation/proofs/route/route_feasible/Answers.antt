-- `route_feasible`: where nothing but the distance can fail, the distance decides; else the clock does.
use lib.Ieee.{of_bits}
use mathlib.Core.Path.{sym, ◌∙◌}
use Rattle.evaluation.specs.Unclocked.{feasible-unclocked}
use Rattle.evaluation.proofs.route.route_feasible.Goals as goal

pub returns-in-Some : goal.returns-in-Some
unfolding of_bits
returns-in-Some c =
    c.allow.ensures
    ∙ feasible-unclocked _ _ _ _ _ (sym c.is_clockless.ensures ∙ c.if-is_clockless.true) (rw (← c.matrix.ensures.size, ← c.matrix.ensures.entries) (sym c.unclocked_distance-free.ensures ∙ c.in-Some.is))
