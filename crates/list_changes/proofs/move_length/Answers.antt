-- `list_changes::move_length` meets its contract: both lengths are read before they are stored. Assumes nothing.
use mathlib.Core.Path.{refl}
use Rattle.list_changes.specs.Edits.{length_moved}
use Rattle.list_changes.proofs.move_length.Goals as goal

pub returns : goal.returns
unfolding length_moved
returns c =
    refl
