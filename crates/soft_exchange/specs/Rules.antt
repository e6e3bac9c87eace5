-- The rules of tail exchange where a day has a soft window: those of the engine's own definition (tail_prices/specs/Tails.antt), with a van's terms. For src/.
-- Assumes nothing.
use Rattle.std.specs.Prelude.{Bool, List, ℕ, ℤ, Float}
use Rattle.labels.specs.Columns.{Columns}
use Rattle.descent.specs.Search.{Judge}
use Rattle.descent.specs.Across.{Tails}
use Rattle.tail_candidates.specs.declared.Terms.{Terms}
use Rattle.tail_prices.specs.Tails.{soft_exchange_search, soft_exchange_judge}
use Rattle.tail_prices.specs.Changes.{cost_in}
use Rattle.soft_tail_candidates.specs.Candidate.{measures_for}
use Rattle.exchange_sweeps.specs.Exchange.{Rules}

-- which exchanges pass on a day, with a van's terms
unfoldable pub passes_of : Columns → List ℤ → Terms → List (List ℕ) → Tails → Bool
passes_of c demand t = (soft_exchange_search (measures_for demand t) (cost_in c t)).passes

-- how a candidate is judged
unfoldable pub judge_of : Columns → Terms → Judge (List (List ℕ)) Tails Float
judge_of c t = soft_exchange_judge (cost_in c t) t.floor

-- what the search goes by
abbrev pub rules_of : Columns → List ℤ → Terms → Rules
rules_of c demand t = record { locations = c.l; passes = passes_of c demand t; judge = judge_of c t }
