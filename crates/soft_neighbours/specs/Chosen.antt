-- The neighbour that a pass has found, as its neighbourhood keeps it. For the contracts of src/. Assumes nothing.
use Rattle.std.specs.Prelude.{ℕ, ◌≡◌, Float, Option, Some, None}
use Rattle.std.proofs.Math.Option as maybe
use Rattle.engine.specs.Best.{found_as}
use Rattle.engine.specs.declared.best.Best.{Best}
use Rattle.neighbours.specs.Neighbours.{Neighbour}
use Rattle.neighbours.specs.Places.{Place, meant, Inside}

module _ {P : Type 0} (place : P → Place) where
  -- the neighbour chosen
  abbrev pub chosen : Option P → maybe.Option Neighbour
  chosen = found_as (λ at. meant (place at))

  -- the cost of the one chosen is known, and it is a place
  unfoldable pub Known : (Neighbour → Float) → ℕ → Best P → Type 0
  Known cost n best = elim best.found [ None ↦ Unit | Some at ↦ Inside n (place at) × (best.bound ≡ cost (meant (place at))) ]
