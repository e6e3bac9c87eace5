-- `make_move`: the list laid out anew is the list as the way has it.
use mathlib.Core.Path.{◌∙◌}
use Rattle.reconnections.proofs.Reconnected.{cut_in, laid_out}
use Rattle.reconnections.proofs.make_move.Goals as goal

pub rearrange-requires : goal.rearrange-requires
rearrange-requires c =
    (cut_in c.args.place c.args.way c.reconnection-p.ensures c.requires.inside, c.requires.list_in_bounds)

pub returns : goal.returns
returns c =
    c.rearrange.ensures ∙ laid_out c.args.place c.args.way c.reconnection-p.ensures _
