-- What is tried of one visit of which something is known, offered to one list. For the contracts of src/ and of `offers`. Assumes nothing.
use Rattle.std.specs.Prelude.{cond, List, ℕ, suc, ◌+◌, ltb, ℤ, length, get_or, Float}
use Rattle.day.specs.Matrix.{leg}
use Rattle.labels.specs.Columns.{Columns}
use Rattle.descent.specs.Order.{range}
use Rattle.deltas.specs.Deltas.{removal_delta, insertion_delta}
use Rattle.loads.specs.Loads.{boxes_of}
use Rattle.pairs.specs.declared.Choice.{Choice}
use Rattle.insertions.specs.declared.Least.{Least}
use Rattle.insertions.specs.Cache.{least_below}
use Rattle.places.specs.declared.Setup.{Setup}
use Rattle.relocations.specs.declared.offer.Offer.{Offer}
use Rattle.places.specs.declared.Tried.{Tried}
use Rattle.places.specs.Places.{best_among, ruled_out}

-- what it costs to insert a visit into a list at a place: what the cache is about
abbrev pub cost_of : Columns → Setup → List ℕ → ℕ → ℕ → Float
cost_of c s = insertion_delta (leg c.l c.distances) s.depot s.fixed

-- the visit at a position of X, offered
abbrev pub offer_of : Columns → Setup → List ℕ → ℕ → ℕ → ℕ → Offer
offer_of c s X from position to = record {
  from = from;
  position = position;
  to = to;
  visit = get_or X position 0;
  removal = removal_delta (leg c.l c.distances) s.depot s.fixed X position;
}

-- offered to Y: nothing where that has no room for it, nothing where no place gains, or else every place
unfoldable pub tried : Columns → List ℤ → Setup → List ℕ → List ℕ → ℕ → ℕ → ℕ → ℕ → Choice → Least → Tried
tried c demand s X Y load from position to best known =
    let offer = offer_of c s X from position to in
    let untouched : Tried = record { best = best; least = known } in
    cond (ltb s.capacity (load + boxes_of demand offer.visit)) untouched
    (cond (ruled_out s.pruning s.floor offer.removal known.figure) untouched
    (record {
      best = best_among c s Y offer (range 0 (suc (length Y))) best;
      least = least_below (cost_of c s Y offer.visit) (suc (length Y));
    }))
