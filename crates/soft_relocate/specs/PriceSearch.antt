-- Relocate by whole prices as an engine of crate `relocations`: when it is ready for some lists, and that its terms are relocate's. For src/; the run's definition is in
-- SoftRelocate.antt. Assumes nothing.
use Rattle.std.specs.Prelude.{◌&&◌, List, [], ◌∷◌, ℕ, ℤ, refl, get_or}
use Rattle.edits.specs.Edits.{inserted}
use Rattle.list_changes.specs.Edits.{relocated}
use Rattle.labels.specs.Columns.{Columns}
use Rattle.descent.specs.Permitted.{room}
use Rattle.pairs.proofs.Taken.{agree_local}
use Rattle.loads.specs.Loads.{measure_of, Loaded, Held}
use Rattle.relocations.specs.Relocations.{Sound}
use Rattle.soft_places.specs.Prices.{soft_delta, priced}
use Rattle.soft_places.specs.Places.{Prepared, price_of}
use Rattle.soft_places.specs.declared.Setup.{Setup}
use Rattle.soft_offers.specs.Offers.{search_of, judge_of, terms_of}

-- the columns can be walked from the depot, and the demand and the lists are what they have to be
pub record Ready (c : Columns) (demand : List ℤ) (s : Setup) (visits lengths : List ℕ) : Type 0 where
  pub prepared : Prepared s c
  pub loaded : Loaded c.l demand
  pub held : Held c.l visits lengths

-- ---- laws

-- it searches for relocations, and a move's figures are read off its own two lists
pub sound : (c : Columns) (demand : List ℤ) (s : Setup) → Sound (terms_of c demand s)
unfolding search_of judge_of relocated
sound c demand s = record {
  relocating = record {
    places_are = λ ls. refl;
    candidates_are = λ ls. refl;
    made_is = λ ls m. refl;
    again = refl;
    counts_is = refl;
    less_is = refl;
  };
  local = agree_local (λ X Y m. soft_delta (price_of c s) s.fixed X Y m.position m.place)
      (λ X Y m. room (measure_of demand s.capacity ∷ []) (inserted Y (get_or X m.position 0) m.place) && priced (price_of c s) s.fixed X Y m.position);
}
