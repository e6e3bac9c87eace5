-- `schedule`: what is driven and the rest of the list make the whole walk. Where no label is left, none comes again.
use Prim.Native.Nat.{◌≤◌, ◌<◌}
use mathlib.Core.Path.{◌≡◌}
use lib.ListN.{length, drop}
use Rattle.numbers.specs.Operations.{zero64}
use Rattle.labels.specs.Walk.{walk, tour_of}
use Rattle.break_clock.specs.Schedule.{tick_break}
use Rattle.labels.specs.Lent.{lent}
use Rattle.break_clock.proofs.schedule.Given as goal

abbrev pub invariant-loop-visit : goal.invariant-loop-visit
invariant-loop-visit l =
    (l.visit-index ≤ length l.list) × (l.place < l.columns.locations) × (l.clock.prev < l.columns.locations) × (l.clock.index ≡ l.visit-index)
    × (let c = (lent l.columns) in
    walk c (tick_break c) (tour_of l.distance l.clock l.place) (drop l.visit-index l.list) ≡ walk c (tick_break c) (tour_of zero64 l.initial.clock l.depot) l.list)
