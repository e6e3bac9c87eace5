-- The order of refusals 6 and 7, and what a van that is not refused tells. Assumes nothing.
use Rattle.std.specs.Prelude.{ℕ, ◌<◌, ◌≡◌, List, true}
use Rattle.std.proofs.Common.{ltb-true}
use Rattle.tests.specs.All.{unless, passed}
use Rattle.day.specs.Customer.{num_depots}
use Rattle.day.specs.Refusal.{is_depot, van_ok}
use Rattle.day.specs.declared.vehicle.Van.{Van}

-- ---- 'The order is by number'

-- the first of 6 and 7 that the van meets, and 0 where it meets none
unfoldable pub van_refusal : List ℕ → Van → ℕ
van_refusal flags v = unless (is_depot flags v.depot) 6 (unless (van_ok v) 7 0)

-- what a van that is not refused tells
pub record VanFine (flags : List ℕ) (v : Van) : Type 0 where
  pub depot : v.depot < num_depots flags
  pub van : van_ok v ≡ true

-- ---- laws

-- a van that is not refused is fine
pub van_fine : (flags : List ℕ) (v : Van) → van_refusal flags v ≡ 0 → VanFine flags v
unfolding van_refusal is_depot
van_fine flags v h =
    let six = passed _ _ _ h tt in
    let seven = passed _ _ _ six.1 tt in
    record { depot = ltb-true _ _ six.0; van = seven.0 }
