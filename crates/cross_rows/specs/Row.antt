-- A row of candidates between two lists: the list of each is one list with a stretch of the other in the place of its own, and from candidate to candidate
-- the ends of the stretches stay or go on by one. For `row_costs` and who calls it. Assumes nothing.
use Rattle.std.specs.Prelude.{◌≡◌, false, cond, List, ℕ, ◌+◌, ◌*◌, ◌≤◌, ◌<◌, get_or, Float}
use Rattle.std.proofs.Math.Seq.{slice}
use Rattle.std.specs.Float.{nan, inf}
use Rattle.std.specs.Float.Ieee.{lt}
use Rattle.day.specs.declared.vehicle.Van.{Van}
use Rattle.labels.specs.Columns.{Columns}
use Rattle.cross_moves.specs.CrossDepot.{priced_as, amount, replaced}
use Rattle.cross_rows.specs.declared.Stretch.{Stretch}

-- where the stretch of candidate j begins
abbrev pub from_at : Stretch → ℕ → ℕ
from_at s j = s.from + j * s.from_step

-- and where it ends
abbrev pub to_at : Stretch → ℕ → ℕ
to_at s j = s.to + j * s.to_step

-- the list of candidate j
abbrev pub changed : List ℕ → Stretch → List ℕ → Stretch → ℕ → List ℕ
changed list own other others j = replaced list (from_at own j) (to_at own j) (slice (from_at others j) (to_at others j) other)

-- what a list costs with its van, infinite where the van doesn't allow it; it isn't asked where the mark is infinite
unfoldable pub cost_unless : Columns → Van → Float → List ℕ → Float
cost_unless c van mark list = cond (lt mark (inf false)) (amount (priced_as c van list)) (inf false)

-- the costs of a row's candidates, each at its number
abbrev pub Costed : Columns → Van → List ℕ → Stretch → List ℕ → Stretch → List Float → ℕ → List Float → Type 0
Costed c van list own other others skip count costs =
    (j : ℕ) → j < count → get_or costs j nan ≡ cost_unless c van (get_or skip j nan) (changed list own other others j)

-- what a caller shows of the stretches: the ends stay or go on by one, and lie in lists of n and m visits
pub record Rowed (n m : ℕ) (own others : Stretch) (count : ℕ) : Type 0 where
  pub own_steps : (own.from_step ≤ 1) × (own.to_step ≤ 1)
  pub other_steps : (others.from_step ≤ 1) × (others.to_step ≤ 1)
  pub few : count ≤ 64
  pub ordered : (j : ℕ) → j < count → from_at own j ≤ to_at own j
  pub within : (j : ℕ) → j < count → to_at own j ≤ n
  pub others_ordered : (j : ℕ) → j < count → from_at others j ≤ to_at others j
  pub others_within : (j : ℕ) → j < count → to_at others j ≤ m
