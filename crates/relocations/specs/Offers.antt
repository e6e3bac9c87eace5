-- A visit offered at the places of a list: the better of the best so far and one place, and the best after some. For the contracts of src/ and of both
-- engines. Assumes nothing.
use Rattle.std.specs.Prelude.{Bool, cond, ◌&&◌, List, [], ◌∷◌, ℕ, Float}
use Rattle.std.specs.Float.Ieee.{lt}
use Rattle.numbers.specs.Operations.{◌⊕◌}
use Rattle.pairs.specs.declared.Choice.{Choice}
use Rattle.relocations.specs.declared.offer.Offer.{Offer}

-- an offer, taken at a place
abbrev pub taken_at : Offer → ℕ → Float → Choice
taken_at offer place delta =
    record { found = 1; from = offer.from; position = offer.position; to = offer.to; place = place; delta = delta }

-- the better of the best so far and an offer at a place, where putting the visit in changes so much, and the list that this makes passes or not
unfoldable pub better : Offer → Float → Bool → Choice → ℕ → Choice
better offer insertion passed best place =
    cond (lt (offer.removal ⊕ insertion) best.delta && passed) (taken_at offer place (offer.removal ⊕ insertion)) best

-- the best after some places or visits, one after another
unfoldable pub best_after : (Choice → ℕ → Choice) → List ℕ → Choice → Choice
best_after step [] best = best
best_after step (k ∷ ks) best = best_after step ks (step best k)
