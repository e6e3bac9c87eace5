-- 'A value whose flag is off is never read': vans that differ only in such values have the same refusal, since they meet the same tests.
use Prim.Native.Nat.{ℕ}
use mathlib.Core.Path.{◌≡◌}
use mathlib.Core.List.{List}
use Rattle.day.specs.Refusal.{van_ok}
use Rattle.day.specs.Unread.{SameVan}
use Rattle.day.specs.declared.vehicle.Van.{Van}
use Rattle.day.proofs.Unread.{limits_same}
use Rattle.van_refusals.specs.Order.{van_refusal}

-- the same refusal of the van
pub same_van_refusal : (v w : Van) → SameVan v w → (flags : List ℕ) → van_refusal flags v ≡ van_refusal flags w
unfolding van_refusal van_ok
same_van_refusal v w same flags =
    rw (limits_same v w same, same.depot, same.capacity, same.cost_per_distance, same.fixed_cost)
