-- How the program judges a candidate, engine by engine, and demand 3's premises on the numbers: for every engine's definition and for the claim.
-- Assumes nothing.
use Rattle.std.specs.Prelude.{List, [], ℕ, ◌≤◌, ◌<◌, T, length, get_or, Float}
use Rattle.std.specs.Float.Ieee.{lt, eq}
use Rattle.numbers.specs.Operations.{zero64}
use Rattle.numbers.specs.Value.{is_whole, nat_of}
use Rattle.numbers.specs.Total.{every}
use Rattle.numbers.specs.Floor.{gain_floor, counts}
use Rattle.day.specs.Matrix.{leg, scale_of, Square}
use Rattle.edits.specs.Total.{total}
use Rattle.descent.specs.Sum.{Roads}
use Rattle.descent.specs.Permitted.{Engine, two_opt, three_opt, or_opt, tail_exchange, relocate, State}
use Rattle.descent.specs.Search.{Judge}
use Rattle.descent.specs.Across.{at}
use Rattle.descent.specs.Engines.{Move}
use Rattle.deltas.specs.Deltas.{two_opt_delta, or_opt_delta, three_opt_delta, exchange_delta, relocate_delta}

-- what the engines read of a day and a van: the table of distances, the van's depot and its `fixed_cost_in_distance`
pub record Map : Type 0 where
  pub l : ℕ
  pub distances : List Float
  pub depot : ℕ
  pub fixed : Float

-- the distance from a location to a location
abbrev pub distance_of : Map → ℕ → ℕ → Float
distance_of map = leg map.l map.distances

-- 01, Modules, 2: 'floor = 1e-12 times `scale`, one rounding', from the whole table
abbrev pub floor_of : Map → Float
floor_of map = gain_floor (scale_of map.distances)

-- the delta of an engine's candidate
abbrev pub delta_of : (e : Engine) → Map → State e → Move e → Float
delta_of two_opt map xs m = two_opt_delta (distance_of map) map.depot xs m.first m.last
delta_of three_opt map xs m = three_opt_delta (distance_of map) map.depot xs m.cut.i m.cut.j m.cut.k m.way.0 m.way.1 m.way.2
delta_of (or_opt last) map xs m = or_opt_delta (distance_of map) map.depot xs m.size m.from m.to
delta_of tail_exchange map ls m = exchange_delta (distance_of map) map.depot (at ls m.pair.one) (at ls m.pair.other) m.cut1 m.cut2
delta_of (relocate giver-tested) map ls m =
    relocate_delta (distance_of map) map.depot map.fixed (at ls m.from) (at ls m.to) m.position m.place

-- 01, Modules, 2: 'A gain counts if delta is strictly below minus the floor'; the lesser delta is the better
abbrev pub float_judge : (e : Engine) → Map → Judge (State e) (Move e) Float
float_judge e map = record { delta = delta_of e map; counts = λ delta. counts delta (floor_of map); less = lt }

-- ---- demand 3's premises on the numbers

-- the whole numbers that the distances and the fixed cost are
abbrev pub roads_of : Map → Roads
roads_of map = record { distance = λ a b. nat_of (distance_of map a b); depot = map.depot; fixed = nat_of map.fixed }

-- 00, demand 3: 'whole distances up to 16,777,216, zero from the van's depot to itself, a fixed cost worth a whole distance in that range'
pub record WholeMap (map : Map) : Type 0 where
  pub square : Square map.l map.distances
  pub depot_there : map.depot < map.l
  pub distances : T (every (is_whole 16777216) map.distances)
  pub home : T (eq (distance_of map map.depot map.depot) zero64)
  pub fixed : T (is_whole 16777216 map.fixed)

-- the lists lent: each visit is a location, and there are at most 16 times 63
pub record Lent (l : ℕ) (ls : List (List ℕ)) : Type 0 where
  pub visit_there : (r k : ℕ) → k < length (get_or ls r []) → get_or (get_or ls r []) k 0 < l
  pub few : total length ls ≤ 1008
