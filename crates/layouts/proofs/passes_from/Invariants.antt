-- `passes_from`: what is driven and the rest of the list laid out make the whole walk from the head. A visit that is missed leaves the rest missed.
use Prim.Native.Nat.{◌<◌}
use mathlib.Core.Path.{◌≡◌}
use lib.ListN.{drop}
use Rattle.std.specs.Prelude.{Some}
use Rattle.labels.specs.Walk.{walk, tour_of}
use Rattle.evaluation.specs.Route.{tick}
use Rattle.layouts.specs.Layout.{laid}
use Rattle.labels.specs.Lent.{lent}
use Rattle.layouts.proofs.passes_from.Given as goal

abbrev pub invariant-loop-i : goal.invariant-loop-i
invariant-loop-i l =
    (l.place < l.columns.locations)
    × (let c = lent l.columns in
    walk c (tick c) (tour_of l.distance (Some l.label) l.place) (drop l.i (laid l.list l.p))
    ≡ walk c (tick c) (tour_of l.initial.distance (Some l.initial.label) l.initial.place) (drop l.initial.i (laid l.list l.p)))
