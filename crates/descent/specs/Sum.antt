-- The sum of demand 3, over lists of visits, in whole numbers. For the claim (Claim.antt). Assumes nothing.
use Rattle.std.specs.Prelude.{List, [], ◌∷◌, ◌++◌, ℕ, ◌+◌}
use Rattle.edits.specs.Total.{total}

-- what the sum depends on: the distance from a place to a place, the van's depot, and its `fixed_cost_in_distance`
pub record Roads : Type 0 where
  pub distance : ℕ → ℕ → ℕ
  pub depot : ℕ
  pub fixed : ℕ

-- the distance from a place through visits to the last of them
abbrev pub walk : (ℕ → ℕ → ℕ) → ℕ → List ℕ → ℕ
walk d here [] = 0
walk d here (x ∷ xs) = d here x + walk d x xs

-- 01: 'from the van's depot to its first visit, from visit to visit, and from the last to the depot'
abbrev pub round : Roads → List ℕ → ℕ
round roads xs = walk roads.distance roads.depot (xs ++ roads.depot ∷ [])

-- 01: 'the distance of all non-empty lists plus `fixed_cost_in_distance` for each'
abbrev pub price : Roads → List ℕ → ℕ
price roads [] = 0
price roads (x ∷ xs) = roads.fixed + round roads (x ∷ xs)

-- 'The sum in demand 3'
abbrev pub cost : Roads → List (List ℕ) → ℕ
cost roads = total (price roads)
