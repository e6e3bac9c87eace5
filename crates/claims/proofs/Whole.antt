-- The premises of demand 3, of a day and a van that aren't refused, are those of the exact deltas. Assumes nothing but them.
use Prim.Native.Nat.{◌<◌}
use Rattle.day.specs.Day.{Day}
use Rattle.day.specs.Matrix.{Square}
use Rattle.day.specs.declared.vehicle.Van.{Van}
use Rattle.deltas.specs.Judged.{WholeMap}
use Rattle.claims.specs.Demand3.{WholeDay, map_for}

-- whole distances, a whole fixed cost and nothing from the depot to itself
pub whole_map : (d : Day) (van : Van) → Square d.l d.distances → van.depot < d.l → WholeDay d van → WholeMap (map_for d van)
whole_map d van square there whole = record {
  square = square;
  depot_there = there;
  distances = whole.distances;
  home = whole.home;
  fixed = whole.fixed;
}
