-- What an entry refuses, and what an input that it doesn't refuse tells. Every entry's contract starts here. Assumes nothing.
use Rattle.std.specs.Prelude.{ℕ, ◌+◌, ◌<◌, ◌≡◌, List, true, Float, length, get_or, drop}
use Rattle.std.proofs.Common.{arith, lt_of_lt_of_le, get_or-take, get_or-drop}
use Rattle.tests.specs.All.{first_of, first_zero}
use Rattle.day.specs.Day.{Day}
use Rattle.day.specs.Matrix.{Square}
use Rattle.day.specs.Customer.{num_depots}
use Rattle.day.specs.Refusal.{all_plain}
use Rattle.day_refusals.specs.Order.{day_refusal, DayFine, day_fine}
use Rattle.van_refusals.specs.Order.{van_refusal, VanFine, van_fine}
use Rattle.day.specs.declared.vehicle.Van.{Van}
use Rattle.lists.specs.Fine.{TableFine, ListsFine}
use Rattle.list_refusals.specs.Refused.{table_refusal, lists_refusal}
use Rattle.lists.specs.Table.{start_of, list_of}
use Rattle.lists.proofs.Tables.{length_list, list_within}
use Rattle.list_refusals.proofs.Fine.{table_fine}
use Rattle.fleet.specs.Fleet.{Fleet}
use Rattle.fleet.specs.Refusal.{prices_refusal, prices_fine}
use Rattle.fleet_refusals.specs.Order.{fleet_refusal, FleetFine, fleet_fine}
use Rattle.labels.specs.Columns.{Visits}

-- 01, 'Refused, by place': 'The order is by number': the first of 1 to 10 that an input meets, and 0 where it meets none, of an entry that asks for a list
unfoldable pub refusal : Day → Van → List ℕ → List ℕ → ℕ → ℕ
refusal d van visits lengths list =
    first_of (day_refusal d) (first_of (van_refusal d.flags van) (lists_refusal (num_depots d.flags) d.l visits lengths list))

-- the first of 1 to 7, of an entry that looks at no list
unfoldable pub day_and_van_refusal : Day → Van → ℕ
day_and_van_refusal d van = first_of (day_refusal d) (van_refusal d.flags van)

-- the first of 1 to 10, of an entry that takes all lists and asks for none
unfoldable pub refusal_of_lists : Day → Van → List ℕ → List ℕ → ℕ
refusal_of_lists d van visits lengths =
    first_of (day_refusal d) (first_of (van_refusal d.flags van) (table_refusal (num_depots d.flags) d.l visits lengths))

-- of cross-depot, which takes a fleet: 'The order is by number, except that cross-depot tests 11 before 6. It tests every van for 6, then every van for 7'
unfoldable pub refusal_of_fleet : Day → Fleet → List ℕ → List ℕ → List ℕ → List Float → ℕ
refusal_of_fleet d fleet visits lengths ids prices =
    first_of (day_refusal d)
    (first_of (fleet_refusal d.flags fleet (length lengths) ids prices)
    (first_of (table_refusal (num_depots d.flags) d.l visits lengths) (prices_refusal prices)))

-- what an input that is not refused tells, of an entry that asks for no list
pub record FineLists (d : Day) (van : Van) (visits lengths : List ℕ) : Type 0 where
  pub day : DayFine d
  pub van_fine : VanFine d.flags van
  pub depot : van.depot < d.l
  pub table : TableFine (num_depots d.flags) d.l visits lengths

-- and of one that asks for a list
pub record Fine (d : Day) (van : Van) (visits lengths : List ℕ) (list : ℕ) : Type 0 where
  pub day : DayFine d
  pub van_fine : VanFine d.flags van
  pub depot : van.depot < d.l
  pub lists : ListsFine (num_depots d.flags) d.l visits lengths list

-- and of cross-depot
pub record FineFleet (d : Day) (fleet : Fleet) (visits lengths ids : List ℕ) (prices : List Float) : Type 0 where
  pub day : DayFine d
  pub vans : FleetFine d.flags fleet (length lengths) ids prices
  pub table : TableFine (num_depots d.flags) d.l visits lengths
  pub plain : all_plain prices ≡ true

-- ---- laws; that of an entry that asks for a list is in proofs/NotRefused.antt

-- a day and a van that are not refused, whatever is tested behind them
pub day_and_van : (d : Day) (van : Van) (rest : ℕ) → first_of (day_refusal d) (first_of (van_refusal d.flags van) rest) ≡ 0
    → DayFine d × VanFine d.flags van × (van.depot < d.l) × (rest ≡ 0)
day_and_van d van rest h =
    let of-day = first_zero _ _ h in
    let of-van = first_zero _ _ of-day.1 in
    let d-fine = day_fine d of-day.0 in
    let v-fine = van_fine d.flags van of-van.0 in
    (d-fine, v-fine, lt_of_lt_of_le v-fine.depot d-fine.depots, of-van.1)

-- an input that is not refused is fine, of an entry that asks for no list
pub fine_lists : (d : Day) (van : Van) (visits lengths : List ℕ) → refusal_of_lists d van visits lengths ≡ 0 → FineLists d van visits lengths
unfolding refusal_of_lists
fine_lists d van visits lengths h =
    let f = day_and_van d van _ h in
    record { day = f.0; van_fine = f.1; depot = f.2; table = table_fine _ _ visits lengths f.3 }

-- the same of cross-depot
pub fine_fleet : (d : Day) (fleet : Fleet) (visits lengths ids : List ℕ) (prices : List Float) → refusal_of_fleet d fleet visits lengths ids prices ≡ 0
    → FineFleet d fleet visits lengths ids prices
unfolding refusal_of_fleet
fine_fleet d fleet visits lengths ids prices h =
    let of-day = first_zero _ _ h in
    let of-fleet = first_zero _ _ of-day.1 in
    let of-table = first_zero _ _ of-fleet.1 in
    record {
      day = day_fine d of-day.0;
      vans = fleet_fine _ fleet _ ids prices of-fleet.0;
      table = table_fine _ _ visits lengths of-table.0;
      plain = prices_fine prices of-table.1;
    }

-- the list asked for has at most 63 visits, each a location
pub visits_fine : (d : Day) (van : Van) (visits lengths : List ℕ) (list : ℕ) → Fine d van visits lengths list → Visits d.l (list_of visits lengths list)
unfolding list_of
visits_fine d van visits lengths list f =
    let table = f.lists.table in
    let start = start_of lengths list in
    let size = get_or lengths list 0 in
    let long : length (list_of visits lengths list) ≡ size = length_list visits lengths table.laid.add_up list in
    let within = list_within visits lengths table.laid list in
    record {
      few = rw long (table.short list);
      below = λ k lt.
          let inside : k < size = rw long at lt in
          let there : start + k < length visits = omega arith in
          rw (get_or-take size (drop start visits) k 0 inside, get_or-drop start visits k 0) (table.below (start + k) there);
    }

-- a day that is not refused has a square table
pub square_fine : (d : Day) (van : Van) → day_and_van_refusal d van ≡ 0 → Square d.l d.distances
unfolding day_and_van_refusal
square_fine d van h = (day_fine d (first_zero _ _ h).0).shaped.tables.of_distances
