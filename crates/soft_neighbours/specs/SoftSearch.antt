-- One pass where a day has a soft window (local_search/soft.rs, 01, Modules, 7): the first least of the neighbours that beat the list's effective cost.
-- For the contract of `best_neighbour`, and for soft's definition of a run. Assumes nothing.
use Rattle.std.specs.Prelude.{ℕ, true, List, [], ◌∷◌, length, Float}
use Rattle.std.specs.Float.Ieee.{lt}
use Rattle.numbers.specs.Floor.{counts_soft}
use Rattle.descent.specs.Search.{begins_again, Search, Judge}
use Rattle.neighbours.specs.Neighbours.{Neighbourhood, Neighbour, neighbours, made}

-- one place, whose candidates are all neighbours; each may be taken, for one that fails costs infinity
abbrev pub soft_search : Neighbourhood → Search (List ℕ) Unit Neighbour
soft_search which = record {
  places = λ list. tt ∷ [];
  candidates = λ list place. neighbours which (length list);
  passes = λ list neighbour. true;
  made = made;
  after = begins_again;
}

-- what a neighbour costs, and what the list costs
pub record Offer : Type 0 where
  pub new : Float
  pub old : Float

-- 01, Modules, 2: 'if the new cost is strictly below the rounded cost minus floor'; the lesser cost is the better
abbrev pub soft_judge : (List ℕ → Float) → Float → Judge (List ℕ) Neighbour Offer
soft_judge cost floor = record {
  delta = λ list neighbour. record { new = cost (made list neighbour); old = cost list };
  counts = λ offer. counts_soft offer.new offer.old floor;
  less = λ offer best. lt offer.new best.new;
}
