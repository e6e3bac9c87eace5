-- A piece at a new position of its list, as Or-opt states it: what stays the same over a run, and the choice among candidates. For src/. Assumes nothing.
use Rattle.std.specs.Prelude.{◌≡◌, ◌⊎◌, List, [], map, ℕ, ◌+◌, ◌≤◌, ◌<◌, Float}
use Rattle.std.specs.Float.Ieee.{neg}
use Rattle.numbers.specs.Operations.{zero64}
use Rattle.labels.specs.Columns.{Columns, Formed, Visits}
use Rattle.evaluation.specs.Route.{checks_needed}
use Rattle.descent.specs.Permitted.{Engine, or_opt, n_minus_length}
use Rattle.descent.specs.Search.{Search, Judge}
use Rattle.descent.specs.Within.{Piece}
use Rattle.descent.specs.Engines.{engine_search}
use Rattle.deltas.specs.Judged.{Map, floor_of, delta_of, float_judge}
use Rattle.engine.specs.Engine.{checks_of, map_of}
use Rattle.engine.specs.Best as engine_best
use Rattle.engine.specs.declared.best.Best.{Best}
use Rattle.segments.specs.declared.Terms.{Terms}
use Rattle.segments.specs.declared.Change.{Change}

-- 01, Or-opt: 'position to of the original list, 0 to n minus the piece's length' (02, F-9 changes the last one)
abbrev pub last_position : ℕ → ℕ → ℕ
last_position = n_minus_length

-- Or-opt with that last position
abbrev pub engine : Engine
engine = or_opt last_position

-- the search of a run: 'the result passes'
abbrev pub search_of : Columns → Terms → Search (List ℕ) ℕ Piece
search_of c t = engine_search engine (checks_of [] c t.limits t.depot)

-- the table and the depot; the fixed cost is not read within a list
abbrev pub road_map : Columns → Terms → Map
road_map c t = map_of c.l c.distances t.depot zero64

-- 'A gain counts if ..', and the lesser delta is the better
abbrev pub judge_of : Columns → Terms → Judge (List ℕ) Piece Float
judge_of c t = float_judge engine (road_map c t)

-- 01, Modules, 7: the change in distance of a candidate, bit for bit as the Rust works it out
abbrev pub delta_at : Columns → Terms → List ℕ → Piece → Float
delta_at c t = delta_of engine (road_map c t)

-- what a run's functions ask: the day is formed, the depot and the visits are locations, and the terms are those of the day
pub record Asked (c : Columns) (t : Terms) (xs : List ℕ) : Type 0 where
  pub formed : Formed c
  pub depot_there : t.depot < c.l
  pub visits : Visits c.l xs
  pub needed : t.needed ≡ checks_needed c.flags t.limits
  pub floor : t.floor ≡ floor_of (road_map c t)

-- a piece that can go where it is to go: it is in the list, and does not go into itself
pub record Fits (n : ℕ) (p : Piece) : Type 0 where
  pub inside : p.from + p.size ≤ n
  pub there : p.to ≤ n
  pub apart : (p.to < p.from) ⊎ (p.from + p.size ≤ p.to)

-- the piece at a place goes to each of some positions
abbrev pub to_each : ℕ → ℕ → List ℕ → List Piece
to_each size from = map (λ to. record { size = size; from = from; to = to })

-- ---- the best so far

-- the definition's candidate
abbrev pub placed : Change → Piece
placed m = record { size = m.size; from = m.from; to = m.to }

-- what the first gain has to be below
abbrev pub bound_of : Columns → Terms → Float
bound_of c t = neg (floor_of (road_map c t))

-- the best so far has the delta of its piece, and counts
abbrev pub Known : Columns → Terms → List ℕ → Best Change → Type 0
Known c t xs = engine_best.Known placed (delta_at c t xs) ((search_of c t).passes xs) (bound_of c t)

-- the best after some candidates more
abbrev pub Among : Columns → Terms → List ℕ → Best Change → List Piece → Best Change → Type 0
Among c t xs = engine_best.Among placed (delta_at c t xs) ((search_of c t).passes xs) (bound_of c t)

-- what the rest comes to from the best so far is what all come to from the start
abbrev pub Onto : Columns → Terms → List ℕ → Best Change → List Piece → Best Change → List Piece → Type 0
Onto c t xs = engine_best.Onto placed (delta_at c t xs) ((search_of c t).passes xs) (bound_of c t)
