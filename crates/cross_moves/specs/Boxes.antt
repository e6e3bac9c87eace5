-- The load of every head of a list, in boxes. Assumes nothing.
use Rattle.std.specs.Prelude.{◌≡◌, List, ℕ, ◌≤◌, ◌<◌, ℤ, length, get_or, take}
use Rattle.edits.specs.Total.{total}
use Rattle.loads.specs.Loads.{boxes_of}

-- `prefix_loads`: 'The load of the first `k` customers of `route`, for `k` from 0 to its length'
pub record Prefixed (demand : List ℤ) (list loads : List ℕ) : Type 0 where
  pub long : length list < length loads
  pub load_at : (k : ℕ) → k ≤ length list → get_or loads k 0 ≡ total (boxes_of demand) (take k list)
