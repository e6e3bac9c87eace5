-- The order of refusals 11, 6 and 7 of a fleet, and what a fleet that isn't refused tells. Assumes nothing.
use Rattle.std.specs.Prelude.{ℕ, ◌<◌, ◌≤◌, ◌≡◌, List, length, Float}
use Rattle.std.proofs.Common.{ltb-true}
use Rattle.tests.specs.All.{unless, passed, all_at}
use Rattle.day.specs.Refusal.{is_depot}
use Rattle.van_refusals.specs.Order.{VanFine}
use Rattle.fleet.specs.Fleet.{Fleet, van_at, Fitted}
use Rattle.fleet.specs.Refusal.{fleet_ok, depots_ok, vans_ok, columns_fine}

-- ---- 'cross-depot tests 11 before 6. It tests every van for 6, then every van for 7'

-- the first of 11, 6 and 7, in this order, that the fleet meets, and 0 where it meets none
unfoldable pub fleet_refusal : List ℕ → Fleet → ℕ → List ℕ → List Float → ℕ
fleet_refusal flags f number ids prices = unless (fleet_ok f number ids prices) 11 (unless (depots_ok flags f) 6 (unless (vans_ok f) 7 0))

-- what a fleet that isn't refused tells
pub record FleetFine (flags : List ℕ) (f : Fleet) (number : ℕ) (ids : List ℕ) (prices : List Float) : Type 0 where
  pub fitted : Fitted f
  pub few : length f.ids ≤ 16
  pub ids_fit : length ids ≡ number
  pub prices_fit : length prices ≡ number
  pub vans : (k : ℕ) → k < length f.ids → VanFine flags (van_at f k)

-- ---- laws

-- a fleet that isn't refused is fine
pub fleet_fine : (flags : List ℕ) (f : Fleet) (number : ℕ) (ids : List ℕ) (prices : List Float) → fleet_refusal flags f number ids prices ≡ 0
    → FleetFine flags f number ids prices
unfolding fleet_refusal depots_ok vans_ok is_depot
fleet_fine flags f number ids prices h =
    let eleven = passed _ _ _ h tt in
    let six = passed _ _ _ eleven.1 tt in
    let seven = passed _ _ _ six.1 tt in
    let columns = columns_fine f number ids prices eleven.0 in
    record {
      fitted = columns.0;
      few = columns.1;
      ids_fit = columns.2;
      prices_fit = columns.3;
      vans = λ k there.
          record {
            depot = ltb-true _ _ (all_at _ (length f.ids) k there six.0);
            van = all_at _ (length f.ids) k there seven.0;
          };
    }
