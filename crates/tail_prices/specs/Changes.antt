-- What a tail exchange changes where a window is soft: what a list costs with a van's terms, and what is known of two lists. For the contracts of src/ and of
-- the crates above; the engine's own definition is in Tails.antt. Assumes nothing.
use Rattle.std.specs.Prelude.{◌≡◌, List, ℕ, ℤ, Float}
use Rattle.labels.specs.Columns.{Columns}
use Rattle.labels.specs.Lent.{lent}
use Rattle.evaluation.specs.Route.{effective_cost}
use Rattle.edits.specs.Total.{total}
use Rattle.loads.specs.Loads.{boxes_of}
use Rattle.heads.specs.Head.{Driven}
use Rattle.heads.specs.declared.Head.{Head}
use Rattle.tail_candidates.specs.declared.Terms.{Terms}
use Rattle.tail_candidates.specs.declared.two_lists.TwoLists.{TwoLists}
use Rattle.tail_candidates.specs.TwoLists.{new_one, new_other}
use Rattle.tail_prices.specs.Tails.{change}
use Rattle.tail_prices.specs.declared.Figure.{Figure}
use Rattle.tail_prices.specs.declared.Figures.{Figures}

-- what a list costs
abbrev pub cost_in : Columns → Terms → List ℕ → Float
cost_in c t = effective_cost c t.limits t.depot

-- what a list loads and costs
abbrev pub figure_of : Columns → List ℤ → Terms → List ℕ → Figure
figure_of c demand t list = record { load = total (boxes_of demand) list; cost = cost_in c t list }

-- what a list costs on the day and with the terms of two lists
abbrev pub cost_by : TwoLists → List ℕ → Float
cost_by two = cost_in (lent two.columns.now) two.terms

-- a head of a list, driven by the van with these terms
abbrev pub DrivenBy : TwoLists → List ℕ → Head → Type 0
DrivenBy two = Driven (lent two.columns.now) two.terms.limits.rest two.terms.depot

-- the costs of two lists as they are
pub record Priced (two : TwoLists) (f : Figures) : Type 0 where
  pub first_cost : f.one.cost ≡ cost_by two two.one.now
  pub second_cost : f.other.cost ≡ cost_by two two.other.now

-- what an exchange changes
abbrev pub change_of : TwoLists → ℕ → ℕ → Float
change_of two cut1 cut2 = change (cost_by two) two.one.now two.other.now (new_one two cut1 cut2) (new_other two cut1 cut2)
