-- `edits::reverse` meets its contract: the part that it lends is the stretch, and comes back turned round.
use Rattle.std.proofs.Common.{◌∙◌}
use Rattle.edits.specs.Edits.{reversed}
use Rattle.edits.proofs.Cuts.{lent, put_back}
use Rattle.edits.proofs.reverse.Goals as goal

pub returns : goal.returns
unfolding reversed
returns c =
    put_back _ _ _ _ c.requires.from_le_to ∙ rw (c.reverse.ensures.after, lent _ _ _ c.requires.from_le_to)
