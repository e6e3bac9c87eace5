-- What holds of every run of any of the five engines, whatever its numbers: fractions, infinite prices, any lists, any limit. For every entry's contract.
-- Assumes nothing.
use Rattle.std.specs.Prelude.{◌≡◌, [], ℕ, ◌≤◌, get_or}
use Rattle.edits.specs.Total.{total, count}
use Rattle.descent.specs.Order.{◌∈◌}
use Rattle.descent.specs.Permitted.{Measure, Checks, load, Engine, State, lists, Permitted}
use Rattle.descent.specs.Search.{Word, stopped}
use Rattle.descent.specs.Claim.{Steps, handed}

-- of what is lent, the move limit, what the last move left, what is handed back, the moves reported and the end word
pub record Always (e : Engine) (checks : Checks) (limit : ℕ) (lent ended back : State e) (moves : ℕ) (word : Word) : Type 0 where
  -- exactly that many permitted moves lead from the lists lent to those the last move left
  pub chain : Steps (Permitted e checks) moves lent ended
  -- and these are handed back, but for the dropping
  pub dropping : back ≡ handed e ended
  -- each office as often as it was lent
  pub offices : (x : ℕ) → total (count x) (lists e back) ≡ total (count x) (lists e lent)
  -- no list that met a capacity is over it, by list number before the dropping
  pub loads : (m : Measure) → m ∈ checks.measures → (r : ℕ)
      → load m (get_or (lists e lent) r []) ≤ m.capacity → load m (get_or (lists e ended) r []) ≤ m.capacity
  -- '`stopped` only after exactly as many moves as the limit'
  pub stops : word ≡ stopped → moves ≡ limit
