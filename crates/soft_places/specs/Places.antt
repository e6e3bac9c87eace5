-- A visit offered to a list where a window is soft: what a list is priced at, what an offer changes, and the best of all places. For the contracts of src/
-- and of the crates above; the engine's own search and judging are in Prices.antt. Assumes nothing.
use Rattle.std.specs.Prelude.{true, List, ℕ, ◌<◌, Float}
use Rattle.numbers.specs.Operations.{◌⊕◌, ◌⊖◌}
use Rattle.labels.specs.Columns.{Columns, Formed}
use Rattle.evaluation.specs.Route.{effective_cost}
use Rattle.heads.specs.Head.{Driven}
use Rattle.heads.specs.declared.Head.{Head}
use Rattle.pairs.specs.declared.Choice.{Choice}
use Rattle.edits.specs.Edits.{inserted}
use Rattle.soft_places.specs.declared.Setup.{Setup}
use Rattle.relocations.specs.Offers.{better, best_after}
use Rattle.relocations.specs.declared.offer.Offer.{Offer}

-- ---- what a run asks

-- the columns can be walked from the depot
pub record Prepared (s : Setup) (c : Columns) : Type 0 where
  pub formed : Formed c
  pub depot_there : s.depot < c.l

-- a head of a list, driven by the van of this setup
abbrev pub DrivenBy : Columns → Setup → List ℕ → Head → Type 0
DrivenBy c s = Driven c s.limits.rest s.depot

-- what a list is priced at
abbrev pub price_of : Columns → Setup → List ℕ → Float
price_of c s = effective_cost c s.limits s.depot

-- ---- the best so far

-- the best after an offer at some places of a list that is priced at `old`, with the fixed cost paid where it is empty
unfoldable pub best_among : (List ℕ → Float) → Float → Float → List ℕ → Offer → List ℕ → Choice → Choice
best_among price old paid list offer =
    best_after λ best place. better offer (price (inserted list offer.visit place) ⊖ old ⊕ paid) true best place
