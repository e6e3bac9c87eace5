-- `home`: what is driven and the rest of the list make the whole walk. A visit that is missed leaves the rest missed.
use Prim.Native.Nat.{◌≤◌, ◌<◌}
use mathlib.Core.Path.{◌≡◌}
use lib.ListN.{length, drop}
use Rattle.std.specs.Prelude.{Some}
use Rattle.labels.specs.Walk.{walk, tour_of}
use Rattle.evaluation.specs.Route.{tick}
use Rattle.labels.specs.Lent.{lent}
use Rattle.evaluation.proofs.drive.Drive.home.Given as goal

abbrev pub invariant-loop-visit : goal.invariant-loop-visit
invariant-loop-visit l =
    (l.visit-index ≤ length l.list) × (l.place < l.columns.locations)
    × (let c = (lent l.columns) in
    walk c (tick c) (tour_of l.distance (Some l.label) l.place) (drop l.visit-index l.list) ≡ walk c (tick c) (tour_of l.initial.distance (Some l.initial.label) l.initial.place) l.list)
