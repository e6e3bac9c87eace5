-- `replaced_price`: the buffer's front is the list, and the callee answers.
use mathlib.Core.Path.{ap, ◌∙◌}
use Rattle.cross_moves.specs.CrossDepot.{priced_as}
use Rattle.edits.proofs.Cuts.{front}
use Rattle.cross_prices.proofs.Stretch.{visits-replaced}
use Rattle.cross_prices.proofs.replaced_price.Goals as goal

pub priced-requires : goal.priced-requires
priced-requires c =
    let whole = front c.replaced_into-end.result c.replaced_into-end.new.buffer _ c.replaced_into-end.ensures.buffer_after in (
      c.requires.driven,
      rw whole (visits-replaced _ _ _ c.requires.two.0 _ _ _ _ c.requires.two.1 c.requires.two.2 c.requires.other_from_le_other_to.0 c.requires.other_from_le_other_to.1),
    )

pub returns : goal.returns
returns c =
    c.priced.ensures ∙ ap (priced_as _ _) (front c.replaced_into-end.result c.replaced_into-end.new.buffer _
    c.replaced_into-end.ensures.buffer_after)
