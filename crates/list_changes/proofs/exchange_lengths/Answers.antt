-- `list_changes::exchange_lengths` meets its contract: both lengths are read before they are stored. Assumes nothing.
use Rattle.list_changes.specs.Edits.{tail_lengths}
use Rattle.list_changes.proofs.exchange_lengths.Goals as goal

pub returns : goal.returns
unfolding tail_lengths
returns c =
    rw (c.length_of.ensures.0, c.length_of-2.ensures.0)
