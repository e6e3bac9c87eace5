-- `unclocked_distance`: what is driven and the rest of the list make the whole distance; a visit with a window ends it.
use Prim.Native.Nat.{◌≤◌, ◌<◌}
use mathlib.Core.Path.{◌≡◌}
use lib.ListN.{length, drop}
use Rattle.evaluation.specs.Unclocked.{onward_unclocked, unclocked}
use Rattle.evaluation.proofs.unclocked.unclocked_distance.Given as goal

abbrev pub invariant-loop-visit : goal.invariant-loop-visit
invariant-loop-visit l =
    (l.visit-index ≤ length l.list) × (l.place < l.distances.size)
    × (onward_unclocked l.distances.size l.flags l.distances.entries.now l.depot (drop l.visit-index l.list) l.distance l.place ≡ unclocked l.distances.size l.flags l.distances.entries.now l.depot l.list)
