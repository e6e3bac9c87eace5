-- The rules of tail exchange where no window is soft: those of the engine's own definition, `tail_exchange` of descent. For src/. Assumes nothing.
use Rattle.std.specs.Prelude.{Bool, List, ℕ, ℤ, Float}
use Rattle.numbers.specs.Operations.{zero64}
use Rattle.labels.specs.Columns.{Columns}
use Rattle.descent.specs.Permitted.{tail_exchange}
use Rattle.descent.specs.Search.{Judge}
use Rattle.descent.specs.Across.{Tails}
use Rattle.descent.specs.Engines.{engine_search}
use Rattle.deltas.specs.Judged.{float_judge}
use Rattle.engine.specs.Engine.{map_of}
use Rattle.tail_candidates.specs.Candidate.{checks_for}
use Rattle.tail_candidates.specs.declared.Terms.{Terms}
use Rattle.exchange_sweeps.specs.Exchange.{Rules}

-- which exchanges pass on a day, with a van's terms
unfoldable pub passes_of : Columns → List ℤ → Terms → List (List ℕ) → Tails → Bool
passes_of c demand t = (engine_search tail_exchange (checks_for c demand t)).passes

-- how a candidate is judged; no delta reads the fixed cost
unfoldable pub judge_of : Columns → Terms → Judge (List (List ℕ)) Tails Float
judge_of c t = float_judge tail_exchange (map_of c.l c.distances t.depot zero64)

-- what the search goes by
abbrev pub rules_of : Columns → List ℤ → Terms → Rules
rules_of c demand t = record { locations = c.l; passes = passes_of c demand t; judge = judge_of c t }
