-- A fleet as it is lent, a column for each field of a van, and the van of a list by its id. For every contract over a fleet. Assumes nothing.
use Rattle.std.specs.Prelude.{◌≡◌, true, false, List, [], ◌∷◌, ℕ, suc, ◌≤◌, ◌<◌, eqb, ℤ, pos, length, get_or, Float}
use Rattle.std.specs.Borrow.{Bor}
use Rattle.std.specs.Int.Signed.{le_z}
use Rattle.std.specs.Float.{nan}
use Rattle.day.specs.declared.vehicle.Van.{Van}

-- 01, the day: 'A van: id (u32), depot, capacity, cost per distance, fixed cost, flags, the limits, and the break's earliest, latest, duration'
pub record Fleet : Type 0 where
  pub ids : List ℕ
  pub depots : List ℕ
  pub capacities : List ℤ
  pub distance_costs : List Float
  pub fixed_costs : List Float
  pub flags : List ℕ
  pub max_distances : List Float
  pub max_durations : List Float
  pub earliest : List Float
  pub latest : List Float
  pub durations : List Float

-- the fleet of these columns
abbrev pub fleet_of : List ℕ → List ℕ → List ℤ → List Float → List Float → List ℕ → List Float → List Float → List Float → List Float → List Float → Fleet
fleet_of ids depots capacities per-distance fixed flags most-distance most-duration earliest latest durations = record {
  ids = ids;
  depots = depots;
  capacities = capacities;
  distance_costs = per-distance;
  fixed_costs = fixed;
  flags = flags;
  max_distances = most-distance;
  max_durations = most-duration;
  earliest = earliest;
  latest = latest;
  durations = durations;
}

-- the fleet that a call is lent, as its columns stand: for contracts
abbrev pub fleet_at : Bor (List ℕ) → Bor (List ℕ) → Bor (List ℤ) → Bor (List Float) → Bor (List Float) → Bor (List ℕ) → Bor (List Float)
    → Bor (List Float) → Bor (List Float) → Bor (List Float) → Bor (List Float) → Fleet
fleet_at ids depots capacities per-distance fixed flags most-distance most-duration earliest latest durations =
    fleet_of ids.now depots.now capacities.now per-distance.now fixed.now flags.now most-distance.now most-duration.now earliest.now
    latest.now durations.now

-- van k of the fleet
unfoldable pub van_at : Fleet → ℕ → Van
van_at f k = record {
  id = get_or f.ids k 0;
  depot = get_or f.depots k 0;
  capacity = get_or f.capacities k (pos 0);
  cost_per_distance = get_or f.distance_costs k nan;
  fixed_cost = get_or f.fixed_costs k nan;
  flags = get_or f.flags k 0;
  max_distance = get_or f.max_distances k nan;
  max_duration = get_or f.max_durations k nan;
  earliest = get_or f.earliest k nan;
  latest = get_or f.latest k nan;
  duration = get_or f.durations k nan;
}

-- the number of the first van with an id, counted on from k, and 0 where there is none
unfoldable pub number_from : ℕ → List ℕ → ℕ → ℕ
number_from id [] k = 0
number_from id (x ∷ ids) k = elim (eqb x id) [ true ↦ k | false ↦ number_from id ids (suc k) ]

-- 01, module 10: `fleet_vehicle`, 'first van with the id, else the first van'
abbrev pub fleet_vehicle : Fleet → ℕ → Van
fleet_vehicle f id = van_at f (number_from id f.ids 0)

-- ---- what a caller shows

-- each column has an entry a van
pub record Fitted (f : Fleet) : Type 0 where
  pub depots : length f.depots ≡ length f.ids
  pub capacities : length f.capacities ≡ length f.ids
  pub distance_costs : length f.distance_costs ≡ length f.ids
  pub fixed_costs : length f.fixed_costs ≡ length f.ids
  pub flags : length f.flags ≡ length f.ids
  pub max_distances : length f.max_distances ≡ length f.ids
  pub max_durations : length f.max_durations ≡ length f.ids
  pub earliest : length f.earliest ≡ length f.ids
  pub latest : length f.latest ≡ length f.ids
  pub durations : length f.durations ≡ length f.ids

-- a van whose depot is a location, and whose capacity isn't below 0
pub record Driven (l : ℕ) (van : Van) : Type 0 where
  pub depot_there : van.depot < l
  pub capacity : le_z (pos 0) van.capacity ≡ true

-- a fleet of at most 16 such vans
pub record Crewed (l : ℕ) (f : Fleet) : Type 0 where
  pub fitted : Fitted f
  pub few : length f.ids ≤ 16
  pub driven : (k : ℕ) → k < length f.ids → Driven l (van_at f k)

-- and of one at least
pub record Manned (l : ℕ) (f : Fleet) : Type 0 where
  pub crewed : Crewed l f
  pub some_van : 0 < length f.ids
