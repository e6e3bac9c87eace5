-- `drive`: what is driven so far is the walk over the visits from `from` on. A visit that can't be served ends it before that visit.
use Prim.Native.Nat.{◌≤◌, ◌<◌}
use mathlib.Core.Path.{◌≡◌}
use lib.Seq.{slice}
use Rattle.std.specs.Prelude.{Some}
use Rattle.labels.specs.Walk.{walk, tour_of}
use Rattle.evaluation.specs.Route.{tick}
use Rattle.labels.specs.Lent.{lent}
use Rattle.heads.proofs.drive.Given as goal

abbrev pub invariant-loop-i : goal.invariant-loop-i
invariant-loop-i l =
    (l.from ≤ l.i) × (l.i ≤ l.to) × (l.place < l.columns.locations)
    × (let c = lent l.columns in
    walk c (tick c) (tour_of l.initial.distance (Some l.initial.label) l.initial.place) (slice l.from l.i l.list) ≡ tour_of l.distance (Some l.label) l.place)
