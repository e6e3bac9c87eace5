-- Relocate's moves where a day has a soft window (local_search/relocate.rs, `best_between_soft`): every move is priced whole, on both lists; the engine's
-- search and how it judges. For the contracts of src/ and the definition of the run. Assumes nothing.
use Rattle.std.specs.Prelude.{ℕ, Bool, ◌&&◌, List, [], ◌∷◌, eqb, length, get_or, set, Float}
use Rattle.std.specs.Float.Ieee.{lt}
use Rattle.std.specs.Float.Ieee.Scale.{finite}
use Rattle.numbers.specs.Operations.{◌⊕◌, ◌⊖◌}
use Rattle.numbers.specs.Floor.{counts}
use Rattle.edits.specs.Edits.{inserted, without}
use Rattle.descent.specs.Permitted.{Measure, room}
use Rattle.descent.specs.Search.{begins_again, Search, Judge}
use Rattle.descent.specs.Across.{at, Relocation, relocations, giver, receiver}
use Rattle.deltas.specs.Changes.{fixed_if}

-- ---- what a move changes; `price` is the Rust's `eval`, `giving` the list `without` the visit, `receiving` the one with it `inserted`, and the operations are
-- in its order

module _ (price : List ℕ → Float) (fixed : Float) where
  -- `from_delta = eval(&giving) - old_from - if giving.is_empty() { fixed } else { 0.0 }`
  unfoldable pub giving_delta : List ℕ → ℕ → Float
  giving_delta list position = price (without list position) ⊖ price list ⊖ fixed_if (eqb (length (without list position)) 0) fixed

  -- `to_delta = eval(&receiving) - old_to + if to_route.is_empty() { fixed } else { 0.0 }`
  unfoldable pub receiving_delta : List ℕ → ℕ → ℕ → Float
  receiving_delta list visit place = price (inserted list visit place) ⊖ price list ⊕ fixed_if (eqb (length list) 0) fixed

  -- `delta = from_delta + to_delta`
  unfoldable pub soft_delta : List ℕ → List ℕ → ℕ → ℕ → Float
  soft_delta from to position place = giving_delta from position ⊕ receiving_delta to (get_or from position 0) place

  -- `is_finite`: 'A route already outside its limits is not moved into or out of', an empty one included, and the giver has a price without the visit
  unfoldable pub priced : List ℕ → List ℕ → ℕ → Bool
  priced from to position = finite (price from) && finite (price to) && finite (giving_delta from position)

  -- one place; the candidates of relocate, in its order; the receiver has room, and the move is priced
  abbrev pub soft_relocate_search : List Measure → Search (List (List ℕ)) Unit Relocation
  soft_relocate_search measures = record {
    places = λ ls. tt ∷ [];
    candidates = λ ls p. relocations ls;
    passes = λ ls m. room measures (receiver ls m) && priced (at ls m.from) (at ls m.to) m.position;
    made = λ ls m. set (set ls m.from (giver ls m)) m.to (receiver ls m);
    after = begins_again;
  }

  -- `delta < -self.floor`, and the lesser delta is the better
  abbrev pub soft_relocate_judge : Float → Judge (List (List ℕ)) Relocation Float
  soft_relocate_judge floor = record {
    delta = λ ls m. soft_delta (at ls m.from) (at ls m.to) m.position m.place;
    counts = λ delta. counts delta floor;
    less = lt;
  }
