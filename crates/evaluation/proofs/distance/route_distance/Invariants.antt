-- `route_distance`: what is driven and the rest of the list make the whole distance.
use Prim.Native.Nat.{◌<◌}
use mathlib.Core.Path.{◌≡◌}
use lib.ListN.{drop}
use Rattle.evaluation.specs.Distance.{onward_distance, route_distance}
use Rattle.evaluation.proofs.distance.route_distance.Given as goal

abbrev pub invariant-loop-visit : goal.invariant-loop-visit
invariant-loop-visit l =
    (l.place < l.distances.size) × (onward_distance l.distances.size l.distances.entries.now l.depot (drop l.visit-index l.others) l.distance l.place ≡ route_distance l.distances.size l.distances.entries.now l.depot l.fn.list)
