-- `pattern_change`: the ends of both pieces turned or not, the legs by way of them, and the legs inside.
use Rattle.deltas.proofs.Stops.{turned_placed}
use Rattle.deltas.specs.Changes.{pattern_change}
use Rattle.deltas_three_opt.proofs.pattern_change.Goals as goal

pub through_if-legs-requires : goal.through_if-legs-requires
through_if-legs-requires c = (
  c.requires.0,
  rw
      c.turned_if-new_b.ensures (turned_placed _ _ _ c.requires.1),
  rw c.turned_if-new_c.ensures
      (turned_placed _ _ _ c.requires.2),
)

pub returns : goal.returns
unfolding pattern_change
returns c =
    rw (
      c.through.ensures,
      c.plus_if-cost.ensures,
      c.plus_if-with_b.ensures,
      c.through_if-legs.ensures,
      c.turned_if-new_c.ensures,
      c.turned_if-new_b.ensures,
    )
