-- `step_on`: the library's swap is the definition's two stores, as both places are there.
use mathlib.Core.Path.{sym, ◌∙◌}
use native.Mathlib.Omega.{arith}
use Rattle.std.proofs.lemmas.List.Edits.{swap_is}
use Rattle.edits.specs.Edits.{swapped}
use Rattle.soft_places.proofs.step_on.Goals as goal

pub returns : goal.returns
unfolding swapped
returns c =
    c.swap.ensures.after ∙ sym (swap_is _ _ _ 0 (omega (arith, c.requires.0)) (omega (arith, c.requires.0)))
