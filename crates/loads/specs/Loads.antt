-- Demands in boxes, the load of a list against the van's capacity, and what the engines across lists ask of a demand column and of the table of lists.
-- For the contracts of src/ and of every engine that moves visits between lists. Assumes nothing.
use Rattle.std.specs.Prelude.{◌≡◌, true, List, ℕ, ◌+◌, ◌≤◌, ◌<◌, ℤ, pos, nat_abs, length, get_or}
use Rattle.day.specs.Refusal.{demand_ok}
use Rattle.lists.specs.Table.{Laid}
use Rattle.descent.specs.Permitted.{Measure}

-- 01, 'Demands 0 to 1,000,000': the boxes that a visit needs, its entry of the demand column
unfoldable pub boxes_of : List ℤ → ℕ → ℕ
boxes_of demand visit = nat_abs (get_or demand visit (pos 0))

-- 01: 'a list's load, its visits' demands added up', against so many boxes
abbrev pub measure_of : List ℤ → ℕ → Measure
measure_of demand capacity = record { demand = boxes_of demand; capacity = capacity }

-- 01: the same against the van's capacity
abbrev pub boxes : List ℤ → ℤ → Measure
boxes demand capacity = measure_of demand (nat_abs capacity)

-- 01: an entry of the demand column for each location, each of 'Demands 0 to 1,000,000'
pub record Loaded (l : ℕ) (demand : List ℤ) : Type 0 where
  pub column : length demand ≡ l
  pub in_range : (k : ℕ) → k < l → demand_ok (get_or demand k (pos 0)) ≡ true

-- 01: the lists are laid out in the table, each visit is a location, and all lists together have no more visits than there are offices, so that no list can
-- outgrow a buffer
pub record Held (l : ℕ) (visits lengths : List ℕ) : Type 0 where
  pub laid : Laid visits lengths
  pub below : (k : ℕ) → k < length visits → get_or visits k 0 < l
  pub few : length visits ≤ 63

-- two lists of the table
pub record Two (l : ℕ) (X Y : List ℕ) : Type 0 where
  pub one_below : (k : ℕ) → k < length X → get_or X k 0 < l
  pub other_below : (k : ℕ) → k < length Y → get_or Y k 0 < l
  pub few : length X + length Y ≤ 63
