-- Tail exchange where a day has a soft window (local_search/exchange.rs, the `soft` branches): two lists are judged whole, by distance plus lateness cost;
-- the engine's search and how it judges. For the contracts of src/ and the definition of the run. Assumes nothing.
use Rattle.std.specs.Prelude.{Bool, ◌&&◌, List, ℕ, length, set, Float}
use Rattle.std.specs.Float.Ieee.{lt}
use Rattle.std.specs.Float.Ieee.Scale.{finite}
use Rattle.numbers.specs.Operations.{◌⊕◌, ◌⊖◌}
use Rattle.numbers.specs.Floor.{counts}
use Rattle.descent.specs.Permitted.{Measure, room}
use Rattle.descent.specs.Search.{goes_on, Search, Judge}
use Rattle.descent.specs.Across.{at, Pair, Tails, pairs, tail_cuts, new1, new2}

-- `old1.is_finite() && old2.is_finite()`: a pair of which one list has no price has no move
abbrev pub priced : (List ℕ → Float) → List ℕ → List ℕ → Bool
priced cost X Y = finite (cost X) && finite (cost Y)

-- `eval(&new1) + eval(&new2) - old1 - old2`, in this order of operations
abbrev pub change : (List ℕ → Float) → (X Y newX newY : List ℕ) → Float
change cost X Y newX newY = cost newX ⊕ cost newY ⊖ cost X ⊖ cost Y

-- pairs of lists and their cuts as in tail exchange, the cut at both ends included; both new loads are within the capacity, and both lists have a price.
-- A new list that fails costs infinity, so that its exchange does not count
abbrev pub soft_exchange_search : List Measure → (List ℕ → Float) → Search (List (List ℕ)) Pair Tails
soft_exchange_search measures cost = record {
  places = λ ls. pairs (length ls);
  candidates = tail_cuts;
  passes = λ ls t. (room measures (new1 ls t) && room measures (new2 ls t)) && priced cost (at ls t.pair.one) (at ls t.pair.other);
  made = λ ls t. set (set ls t.pair.one (new1 ls t)) t.pair.other (new2 ls t);
  after = goes_on;
}

-- 01, Modules, 2: 'A gain counts if delta is strictly below minus the floor'; the lesser delta is the better
abbrev pub soft_exchange_judge : (List ℕ → Float) → Float → Judge (List (List ℕ)) Tails Float
soft_exchange_judge cost floor = record {
  delta = λ ls t. change cost (at ls t.pair.one) (at ls t.pair.other) (new1 ls t) (new2 ls t);
  counts = λ delta. counts delta floor;
  less = lt;
}
