-- `make_best`: the move is made in the first n entries, and the others are as they were.
use Rattle.cross_steps.proofs.Parts.{part, parts_even, made_in}
use Rattle.cross_steps.proofs.make_best.Goals as goal

pub make_move-requires-clause-makes : goal.make_move-requires-clause-makes
make_move-requires-clause-makes c =
    rw (part _ c.args.lengths.now) c.requires.makes.0

pub make_move-requires-clause-ids_len : goal.make_move-requires-clause-ids_len
make_move-requires-clause-ids_len c = (
  parts_even _ _ _ c.requires.makes.1 c.requires.ids_len.0,
  parts_even _ _ _ c.requires.makes.1 c.requires.ids_len.1,
)

pub returns : goal.returns
returns c =
    made_in _ _ _ _ _ _ _ _ _ _ _ _ _ c.requires.makes.1 c.requires.ids_len.0 c.requires.ids_len.1 c.make_move.ensures
    c.make_move.auto.lengths c.make_move.auto.ids c.make_move.auto.costs
