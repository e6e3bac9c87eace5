-- `reconnected_into`: the list laid out in the buffer is the list as the way has it.
use borrow.Author.Rules.{rules}
use Rattle.reconnections.proofs.Reconnected.{cut_in, built}
use Rattle.reconnections.proofs.reconnected_into.Goals as goal

pub lay_out-requires-clause-cut_in : goal.lay_out-requires-clause-cut_in
lay_out-requires-clause-cut_in c =
    (cut_in c.args.place c.args.way c.reconnection-p.ensures c.requires.inside, search rules)

pub returns-clause-buffer_after : goal.returns-clause-buffer_after
returns-clause-buffer_after c =
    built c.args.place c.args.way c.reconnection-p.ensures _ _ c.lay_out.ensures
