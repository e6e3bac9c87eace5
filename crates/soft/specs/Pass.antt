-- A run of the soft search as the code keeps it: where it stands, and a neighbour that was found. For src/. Assumes nothing.
use Rattle.std.specs.Prelude.{◌≡◌, List, [], ℕ, ◌<◌, ◌≤◌, length, Float}
use Rattle.labels.specs.Columns.{Columns, Visits}
use Rattle.evaluation.specs.Route.{effective_cost}
use Rattle.descent.specs.Search.{Sweep}
use Rattle.neighbours.specs.Neighbours.{made}
use Rattle.neighbours.specs.Places.{Place, meant, Inside}
use Rattle.soft.specs.declared.Terms.{Terms}
use Rattle.soft.specs.declared.Found.{Found}

-- the list; no place is ahead, as each pass starts again
abbrev pub at : List ℕ → Sweep (List ℕ) Unit
at xs = record { now = xs; ahead = [] }

-- a pass can begin
pub record Ready (c : Columns) (t : Terms) (xs buffer : List ℕ) (cost : Float) : Type 0 where
  pub depot_there : t.depot < c.l
  pub visits : Visits c.l xs
  pub room : length xs ≤ length buffer
  pub priced : cost ≡ effective_cost c t.limits t.depot xs

module _ {P : Type 0} (place : P → Place) where
  -- a neighbour that can be made
  pub record Apt (c : Columns) (t : Terms) (xs buffer : List ℕ) (m : Found P) : Type 0 where
    pub depot_there : t.depot < c.l
    pub visits : Visits c.l xs
    pub room : length xs ≤ length buffer
    pub inside : Inside (length xs) (place m.at)
    pub priced : m.cost ≡ effective_cost c t.limits t.depot (made xs (meant (place m.at)))

  -- where it leads
  abbrev pub after : List ℕ → Found P → Sweep (List ℕ) Unit
  after xs m = at (made xs (meant (place m.at)))
