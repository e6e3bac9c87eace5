-- What a loop over a list of f64 ends with: the sum, the largest, the least, and whether all pass a test. Each starts from a given number z.
use Rattle.std.specs.Prelude.{Bool, true, ◌&&◌, cond, List, [], ◌∷◌, ℕ, ◌+◌, max, Float}
use Rattle.std.specs.Float.{binary64}
use Rattle.std.specs.Float.Ieee.{add, lt}
use Rattle.numbers.specs.Value.{nat_of}

-- every element of a list passes a test
unfoldable pub every : (Float → Bool) → List Float → Bool
every t [] = true
every t (x ∷ xs) = t x && every t xs

-- the sum of z and a list, added up from the left with a rounding at each step
unfoldable pub total : Float → List Float → Float
total z [] = z
total z (x ∷ xs) = total (add binary64 z x) xs

-- the larger of two; the second wins only where it is above
abbrev pub larger : Float → Float → Float
larger z x = cond (lt z x) x z

-- 01, Modules, 1: '`scale` (largest entry, from 0.0)', z being 0.0 there
unfoldable pub largest : Float → List Float → Float
largest z [] = z
largest z (x ∷ xs) = largest (larger z x) xs

-- the smaller of two; the second wins only where it is below
abbrev pub smaller : Float → Float → Float
smaller z x = cond (lt x z) x z

-- 01, Forms: '`sort_by`, `min_by`: choice of the first least', of z and a list
unfoldable pub least : Float → List Float → Float
least z [] = z
least z (x ∷ xs) = least (smaller z x) xs

-- ---- the same of whole numbers, as natural numbers

-- the largest of k and a list of whole numbers
unfoldable pub highest : ℕ → List Float → ℕ
highest k [] = k
highest k (x ∷ xs) = highest (max k (nat_of x)) xs

-- the sum of k and a list of whole numbers
unfoldable pub sum_of : ℕ → List Float → ℕ
sum_of k [] = k
sum_of k (x ∷ xs) = sum_of (k + nat_of x) xs
