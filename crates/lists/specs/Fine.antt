-- What lists that aren't refused tell: document 01's table, 8 to 10. Assumes nothing.
use Rattle.std.specs.Prelude.{◌≢◌, List, ℕ, ◌-◌, ◌≤◌, ◌<◌, length, get_or}
use Rattle.lists.specs.Table.{Laid}

-- no office stands twice: no two positions hold the same
abbrev pub Apart : List ℕ → Type 0
Apart visits = (i j : ℕ) → i < j → j < length visits → get_or visits i 0 ≢ get_or visits j 0

-- what lists that aren't refused tell, of an entry that asks for no list (the laws are list_refusals')
pub record TableFine (depots l : ℕ) (visits lengths : List ℕ) : Type 0 where
  -- at most 16 lists, whose lengths add up to the table
  pub laid : Laid visits lengths
  pub short : (r : ℕ) → get_or lengths r 0 ≤ 63
  -- each visit is an office
  pub office : (k : ℕ) → k < length visits → depots ≤ get_or visits k 0
  pub below : (k : ℕ) → k < length visits → get_or visits k 0 < l
  -- no office stands twice, so that there are no more visits than offices
  pub apart : Apart visits
  pub at_most : length visits ≤ l - depots

-- and of one that asks for a list
pub record ListsFine (depots l : ℕ) (visits lengths : List ℕ) (asked : ℕ) : Type 0 where
  pub table : TableFine depots l visits lengths
  pub there : asked < length lengths
