-- Two lists whose tails may change places: their cuts, and the room that both new lists have in the van. For src/ and the crates above. Assumes nothing.
use Rattle.std.specs.Prelude.{ℕ, ◌≤◌, List, length}
use Rattle.edits.specs.Total.{total}
use Rattle.list_changes.specs.Edits.{joined}
use Rattle.loads.specs.Loads.{boxes_of}
use Rattle.tail_candidates.specs.declared.two_lists.TwoLists.{TwoLists}

-- cuts of the two lists
pub record Within (two : TwoLists) (cut1 cut2 : ℕ) : Type 0 where
  pub one : cut1 ≤ length two.one.now
  pub other : cut2 ≤ length two.other.now

-- the load of a list
abbrev pub load_in : TwoLists → List ℕ → ℕ
load_in two list = total (boxes_of two.demand.now) list

-- the first list's head with the second one's tail
abbrev pub new_one : TwoLists → ℕ → ℕ → List ℕ
new_one two cut1 cut2 = joined two.one.now cut1 two.other.now cut2

-- the second list's head with the first one's tail
abbrev pub new_other : TwoLists → ℕ → ℕ → List ℕ
new_other two cut1 cut2 = joined two.other.now cut2 two.one.now cut1

-- both new lists are within the capacity
pub record Roomy (two : TwoLists) (cut1 cut2 : ℕ) : Type 0 where
  pub one : load_in two (new_one two cut1 cut2) ≤ two.terms.capacity
  pub other : load_in two (new_other two cut1 cut2) ≤ two.terms.capacity
