-- `improve_part`: the run keeps the visits, so that the list that it leaves has a distance.
use Rattle.improvements.proofs.Improving.{improved_as_lem}
use Rattle.within.proofs.Kept.{ran_visits}
use Rattle.improvements.proofs.improve_part.Goals as goal

pub improve-ended-requires-clause-depot_lt_l : goal.improve-ended-requires-clause-depot_lt_l
improve-ended-requires-clause-depot_lt_l g c =
    c.requires.depot_lt_l

pub improve-ended-requires-clause-distances_value : goal.improve-ended-requires-clause-distances_value
improve-ended-requires-clause-distances_value g c =
    c.requires.distances_value

pub route_distance-distance-requires : goal.route_distance-distance-requires
route_distance-distance-requires g c =
    rw c.matrix.ensures.size (
      c.requires.depot_lt_l.0,
      rw
          c.improve-ended.ensures.0 (ran_visits _ _ _ _ _ _
          c.requires.depot_lt_l.1),
    )

pub returns : goal.returns
returns g c = (
  rw (← c.of-limits.ensures) c.improve-ended.ensures.0,
  rw (
    c.improved_of.ensures,
    c.improve-ended.ensures.1,
    c.route_distance-distance.ensures,
    c.matrix.ensures.size,
    c.matrix.ensures.entries,
    c.improve-ended.ensures.0,
    c.of-limits.ensures,
  ) (improved_as_lem _ _ _),
)
