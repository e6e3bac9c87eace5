-- An exchange judged where a window is soft: what stays the same over a run, what is known of two lists, and whether both new lists have room. For the
-- contracts of src/ and of the crates above; the engine's own definition is in tail_prices/specs/Tails.antt. Assumes nothing.
use Rattle.std.specs.Prelude.{◌≡◌, Bool, true, ◌&&◌, List, [], ◌∷◌, ℕ, ◌≤◌, ◌<◌, leb, ℤ}
use borrow.Author.Tests.{leb-true}
use Rattle.labels.specs.Columns.{Columns, Formed}
use Rattle.descent.specs.Permitted.{Measure, room}
use Rattle.descent.proofs.Members.{and_parts}
use Rattle.loads.specs.Loads.{boxes_of, Loaded}
use Rattle.tail_candidates.specs.declared.Terms.{Terms}
use Rattle.tail_candidates.specs.declared.two_lists.TwoLists.{TwoLists}
use Rattle.tail_candidates.specs.TwoLists.{load_in, new_one, new_other}
use Rattle.tail_prices.specs.Tails.{priced}
use Rattle.tail_prices.specs.Changes.{cost_by, Priced}
use Rattle.tail_prices.specs.declared.Figures.{Figures}

-- the boxes against what the van holds
abbrev pub measures_for : List ℤ → Terms → List Measure
measures_for demand t = record { demand = boxes_of demand; capacity = t.capacity } ∷ []

-- what a run's functions ask of what stays the same
pub record Asked (c : Columns) (demand : List ℤ) (t : Terms) : Type 0 where
  pub formed : Formed c
  pub loaded : Loaded c.l demand
  pub depot_there : t.depot < c.l

-- the loads and the prices of two lists
pub record Figured (two : TwoLists) (f : Figures) : Type 0 where
  pub first_load : f.one.load ≡ load_in two two.one.now
  pub second_load : f.other.load ≡ load_in two two.other.now
  pub costs : Priced two f

-- both lists have a price
abbrev pub has_price : TwoLists → Bool
has_price two = priced (cost_by two) two.one.now two.other.now

-- a list has room
abbrev pub room_by : TwoLists → List ℕ → Bool
room_by two = room (measures_for two.demand.now two.terms)

-- whether both new lists have room; both lists have a price
abbrev pub pass_by : TwoLists → ℕ → ℕ → Bool
pass_by two cut1 cut2 = (room_by two (new_one two cut1 cut2) && room_by two (new_other two cut1 cut2)) && has_price two

-- ---- laws

module _ (two : TwoLists) where
  has_room : (list : List ℕ) → room_by two list ≡ true → load_in two list ≤ two.terms.capacity
  has_room list e =
      let within = and_parts (leb (load_in two list) two.terms.capacity) true e in
      leb-true (load_in two list) two.terms.capacity within.0

  -- where an exchange passes both new lists have room
  pub both_have_room : (cut1 cut2 : ℕ) → pass_by two cut1 cut2 ≡ true
      → (load_in two (new_one two cut1 cut2) ≤ two.terms.capacity) × (load_in two (new_other two cut1 cut2) ≤ two.terms.capacity)
  both_have_room cut1 cut2 e =
      let rooms = (and_parts (room_by two (new_one two cut1 cut2) && room_by two (new_other two cut1 cut2)) (has_price two) e).0 in
      let each = and_parts (room_by two (new_one two cut1 cut2)) (room_by two (new_other two cut1 cut2)) rooms in
      (has_room (new_one two cut1 cut2) each.0, has_room (new_other two cut1 cut2) each.1)
