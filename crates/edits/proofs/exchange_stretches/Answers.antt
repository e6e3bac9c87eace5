-- `edits::exchange_stretches` meets its contract: outer stretches with nothing between them are neighbours.
use mathlib.Core.Path.{◌∙◌}
use Rattle.edits.proofs.Turns.{outer_none}
use Rattle.edits.proofs.exchange_stretches.Goals as goal

pub returns : goal.returns
returns c =
    c.exchange_outer.ensures ∙ outer_none _ _ _ _
