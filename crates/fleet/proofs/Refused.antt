-- The test of the depots' column is the test of 6 of every van: the column has an entry a van where it fits the fleet.
use Prim.Native.Nat.{ℕ}
use mathlib.Core.Path.{◌≡◌, ap}
use mathlib.Core.List.{List}
use lib.ListN.{length, get_or}
use Rattle.tests.specs.All.{all_below}
use Rattle.day.specs.Refusal.{is_depot}
use Rattle.fleet.specs.Fleet.{Fleet, van_at, Fitted}
use Rattle.fleet.specs.Refusal.{depots_ok}

-- the depots' column is tested for every van where it fits the fleet
pub depots_tested : (flags : List ℕ) (f : Fleet) → Fitted f → all_below (λ k. is_depot flags (get_or f.depots k 0)) (length f.depots) ≡ depots_ok flags f
unfolding depots_ok van_at
depots_tested flags f fits = ap (all_below (λ k. is_depot flags (get_or f.depots k 0))) fits.depots
