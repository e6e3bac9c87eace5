-- A visit offered to a list: what was worked out before, what it changes at a place, and the best of all places. For the contracts of src/ and of the
-- crates above. Assumes nothing.
use Rattle.std.specs.Prelude.{◌≡◌, Bool, ◌&&◌, List, ℕ, ◌<◌, Float}
use Rattle.std.specs.Float.Ieee.{le, neg}
use Rattle.std.specs.Float.Ieee.Scale.{finite}
use Rattle.numbers.specs.Operations.{◌⊕◌}
use Rattle.numbers.specs.Floor.{gain_floor}
use Rattle.day.specs.Matrix.{leg, scale_of}
use Rattle.labels.specs.Columns.{Columns, Formed}
use Rattle.evaluation.specs.Route.{checks_needed}
use Rattle.deltas.specs.Deltas.{insertion_delta}
use Rattle.engine.specs.Engine.{passing}
use Rattle.pairs.specs.declared.Choice.{Choice}
use Rattle.places.specs.declared.Setup.{Setup}
use Rattle.relocations.specs.Offers.{better, best_after}
use Rattle.relocations.specs.declared.offer.Offer.{Offer}
use Rattle.edits.specs.Edits.{inserted}

-- ---- what a run asks

-- what was worked out before the first move is right
pub record Prepared (s : Setup) (c : Columns) : Type 0 where
  pub formed : Formed c
  pub depot_there : s.depot < c.l
  pub floor : s.floor ≡ gain_floor (scale_of c.distances)
  pub needed : s.needed ≡ checks_needed c.flags s.limits

-- ---- the best so far

-- the best after an offer at some places of a list that has room for it
unfoldable pub best_among : Columns → Setup → List ℕ → Offer → List ℕ → Choice → Choice
best_among c s list offer =
    best_after λ best place.
    better offer (insertion_delta (leg c.l c.distances) s.depot s.fixed list offer.visit place)
    (passing s.needed c s.limits s.depot (inserted list offer.visit place)) best place

-- ---- no place gains

-- `if self.prune && known.is_finite() && removal_delta + known >= -self.floor`
unfoldable pub ruled_out : Bool → Float → Float → Float → Bool
ruled_out pruning floor removal known = pruning && (finite known && le (neg floor) (removal ⊕ known))
