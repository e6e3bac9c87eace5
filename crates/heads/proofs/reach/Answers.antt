-- `reach`: `drive` from the nearest start on.
use native.Mathlib.Omega.{arith}
use Rattle.heads.proofs.Heads.{few-shared, nearest_driven, drives_on}
use Rattle.heads.proofs.reach.Goals as goal

pub drive-requires : goal.drive-requires
drive-requires c =
    let near = nearest_driven _ _ _ c.shared_visits-end.result _ _ c.requires.depot_lt_l.0 c.requires.driven in
    let few = few-shared c.args.rest c.args.to in (
      rw c.nearest_start-start.ensures near.0.placed,
      c.requires.depot_lt_l.1,
      rw c.nearest_start-start.ensures near.1,
      omega (arith, c.shared_visits-end.ensures, few, c.requires.depot_lt_l.2),
    )

pub returns-clause-driven_2 : goal.returns-clause-driven_2
returns-clause-driven_2 c =
    (drives_on _ _ _ _ _ _ _ _ _ c.requires.depot_lt_l.0 c.requires.depot_lt_l.2 c.requires.driven c.shared_visits-end.ensures c.nearest_start-start.ensures
    c.drive.ensures).0

pub returns-clause-visits_le_to : goal.returns-clause-visits_le_to
returns-clause-visits_le_to c =
    (drives_on _ _ _ _ _ _ _ _ _ c.requires.depot_lt_l.0 c.requires.depot_lt_l.2 c.requires.driven c.shared_visits-end.ensures c.nearest_start-start.ensures
    c.drive.ensures).1
