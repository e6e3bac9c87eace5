-- What a run of 3-opt keeps at hand, and the best way so far. For the contracts of src/. Assumes nothing.
use Rattle.std.specs.Prelude.{◌≡◌, List, [], ℕ, ◌<◌, Float}
use Rattle.std.specs.Float.Ieee.{neg}
use Rattle.numbers.specs.Operations.{zero64}
use Rattle.numbers.specs.Floor.{gain_floor}
use Rattle.day.specs.Matrix.{scale_of}
use Rattle.day.specs.declared.vehicle.RouteLimits.{RouteLimits}
use Rattle.labels.specs.Columns.{Columns, Formed}
use Rattle.evaluation.specs.Route.{checks_needed}
use Rattle.descent.specs.Permitted.{three_opt}
use Rattle.descent.specs.Search.{Search, Judge}
use Rattle.descent.specs.Within.{Cut, Reconnection}
use Rattle.descent.specs.Engines.{engine_search}
use Rattle.deltas.specs.Deltas.{Marked}
use Rattle.deltas.specs.Judged.{float_judge}
use Rattle.engine.specs.Engine.{checks_of, map_of}
use Rattle.patterns.specs.declared.Setup.{Setup}
use Rattle.reconnections.specs.declared.Place.{Place}
use Rattle.layouts.specs.Layout.{nth_way}
use Rattle.layouts.specs.declared.Way.{Way}
use Rattle.engine.specs.Best as engine_best
use Rattle.engine.specs.declared.best.Best.{Best}
use Rattle.reconnections.specs.Reconnections.{cut_of, reconnection}

-- the engine's search on a day, with a van's limits and depot
unfoldable pub search_of : Columns → RouteLimits → ℕ → Search (List ℕ) Cut Reconnection
search_of c limits depot = engine_search three_opt (checks_of [] c limits depot)

-- and how it judges a candidate
unfoldable pub judge_of : Columns → ℕ → Judge (List ℕ) Reconnection Float
judge_of c depot = float_judge three_opt (map_of c.l c.distances depot zero64)

-- what was worked out before the first move is right
pub record Prepared (s : Setup) (c : Columns) : Type 0 where
  pub formed : Formed c
  pub depot_there : s.depot < c.l
  pub floor : s.floor ≡ gain_floor (scale_of c.distances)
  pub marked : Marked c.l c.distances s.symmetric
  pub needed : s.needed ≡ checks_needed c.flags s.limits

-- the candidates at a place, by the numbers of their ways
abbrev pub nth_candidate : Place → ℕ → Reconnection
nth_candidate place number = record { cut = cut_of place; way = nth_way number }

-- what the first gain has to be below
abbrev pub bound_of : Columns → Float
bound_of c = neg (gain_floor (scale_of c.distances))

module _ (c : Columns) (s : Setup) (xs : List ℕ) (place : Place) where
  -- the best way so far has the delta of its candidate, and counts
  abbrev pub Known : Best Way → Type 0
  Known = engine_best.Known (reconnection place) ((judge_of c s.depot).delta xs) ((search_of c s.limits s.depot).passes xs) (bound_of c)

  -- the best after some candidates more
  abbrev pub Among : Best Way → List Reconnection → Best Way → Type 0
  Among = engine_best.Among (reconnection place) ((judge_of c s.depot).delta xs) ((search_of c s.limits s.depot).passes xs) (bound_of c)

  -- what the rest comes to from the best so far is what all come to from the start
  abbrev pub Onto : Best Way → List Reconnection → Best Way → List Reconnection → Type 0
  Onto = engine_best.Onto (reconnection place) ((judge_of c s.depot).delta xs) ((search_of c s.limits s.depot).passes xs) (bound_of c)
