-- `make_found`: the tables are as they were where there is no move or no room, and else the move is made in them.
use borrow.Author.Tests.{eq-eqb, ne_eqb}
use mathlib.Core.Path.{refl}
use Rattle.cross_steps.proofs.make_found.Goals as goal

pub returns-then-best-ne1 : goal.returns-then-best-ne1
returns-then-best-ne1 c =
    (ne_eqb _ _ c.if-best-ne1.true, record { same_visits = refl; same_lengths = refl; same_ids = refl; same_costs = refl })

pub returns-then-not-has_room : goal.returns-then-not-has_room
returns-then-not-has_room c = (
  eq-eqb _ _ c.if-best-ne1.false,
  c.if-not-has_room.true,
  record { same_visits = refl; same_lengths = refl; same_ids = refl; same_costs = refl },
)

pub make_best-left-requires-clause-makes : goal.make_best-left-requires-clause-makes
make_best-left-requires-clause-makes c =
    (c.requires.makes.0 (eq-eqb _ _ c.if-best-ne1.false), c.requires.makes.1)

pub returns : goal.returns
returns c =
    (eq-eqb _ _ c.if-best-ne1.false, c.if-not-has_room.false, record { made = c.make_best-left.ensures; deltas_are = c.move_on.ensures })
