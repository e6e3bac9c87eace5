-- `buffers::append_stretch_reversed` meets its contract: the part that it lends is the stretch.
use mathlib.Core.List.{reverse}
use lib.ListN.{length-reverse}
use Rattle.edits.proofs.Chain.{stretch}
use Rattle.buffers.proofs.append_stretch_reversed.Goals as goal

pub returns-clause-appended : goal.returns-clause-appended
returns-clause-appended c =
    (stretch reverse length-reverse c.args.list.now _ _ c.requires.from_le_to.0 c.requires.from_le_to.1 c.append_reversed.ensures).1
