-- Relocate by deltas as an engine of crate `relocations`: when it is ready for some lists, and that its terms are relocate's. For src/. Assumes nothing.
use Rattle.std.specs.Prelude.{false, List, [], ◌∷◌, ℕ, ℤ}
use Rattle.std.specs.Float.Ieee.{neg}
use Rattle.numbers.specs.Floor.{gain_floor}
use Rattle.day.specs.Matrix.{scale_of}
use Rattle.lists.specs.Table.{lists}
use Rattle.labels.specs.Columns.{Columns}
use Rattle.pairs.proofs.Taken.{relocate_relocating}
use Rattle.engine.specs.Engine.{checks_of}
use Rattle.loads.specs.Loads.{measure_of, Loaded, Held}
use Rattle.insertions.specs.declared.Insertions.{Insertions}
use Rattle.relocations.specs.Relocations.{Sound}
use Rattle.places.specs.Places.{Prepared}
use Rattle.places.specs.declared.Setup.{Setup}
use Rattle.offers.specs.Offers.{search_of, judge_of, terms_of, Cached}

-- what was worked out is right, the demand and the lists are what they have to be, and the cache is right of the lists
pub record Ready (c : Columns) (demand : List ℤ) (s : Setup) (cache : Insertions) (visits lengths : List ℕ) : Type 0 where
  pub prepared : Prepared s c
  pub loaded : Loaded c.l demand
  pub held : Held c.l visits lengths
  pub cached : Cached c s (lists visits lengths) cache

-- ---- laws

-- it searches for relocations, and what a candidate between two lists changes, and whether it passes, is read off these
pub sound : (c : Columns) (demand : List ℤ) (s : Setup) → Prepared s c → Sound (terms_of c demand s)
unfolding search_of judge_of
sound c demand s prepared = record {
  relocating = rw prepared.floor
      (relocate_relocating false (checks_of (measure_of demand s.capacity ∷ []) c s.limits s.depot) (judge_of c s).delta
      (neg (gain_floor (scale_of c.distances))));
  local = λ ls ls' a b same. record {
    same_list = same;
    same_delta = λ m u. rw (same m.from u.0 u.1, same m.to u.2 u.3);
    same_test = λ m u. rw (same m.from u.0 u.1, same m.to u.2 u.3);
  };
}
