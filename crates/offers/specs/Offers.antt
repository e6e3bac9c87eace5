-- Relocate's search by deltas, its terms and its cache. For the contracts of src/ and of `relocate`; the engine's own definition is `relocate false` of descent. Assumes nothing.
use Rattle.std.specs.Prelude.{false, List, [], ◌∷◌, ℕ, ℤ, Float}
use Rattle.std.specs.Float.Ieee.{neg}
use Rattle.labels.specs.Columns.{Columns}
use Rattle.descent.specs.Permitted.{relocate}
use Rattle.descent.specs.Search.{Search, Judge}
use Rattle.descent.specs.Across.{Relocation}
use Rattle.descent.specs.Engines.{engine_search}
use Rattle.deltas.specs.Judged.{float_judge}
use Rattle.engine.specs.Engine.{checks_of, map_of}
use Rattle.loads.specs.Loads.{measure_of}
use Rattle.relocations.specs.Relocations.{Terms}
use Rattle.insertions.specs.Cache.{Known}
use Rattle.insertions.specs.declared.Insertions.{Insertions}
use Rattle.places.specs.declared.Setup.{Setup}
use Rattle.visit_offers.specs.Tried.{cost_of}

-- ---- the engine's search and judging

-- 01: 'one visit goes to any place of another list, an empty one included; the receiver has capacity and passes. The giver isn't tested'
unfoldable pub search_of : Columns → List ℤ → Setup → Search (List (List ℕ)) Unit Relocation
search_of c demand s = engine_search (relocate false) (checks_of (measure_of demand s.capacity ∷ []) c s.limits s.depot)

-- 01: the change in the sum of the lists' distances and fixed costs, in f64 in the Rust's order of operations
unfoldable pub judge_of : Columns → Setup → Judge (List (List ℕ)) Relocation Float
judge_of c s = float_judge (relocate false) (map_of c.l c.distances s.depot s.fixed)

-- minus the floor
abbrev pub bound : Setup → Float
bound s = neg s.floor

-- its terms, for crate `relocations`
abbrev pub terms_of : Columns → List ℤ → Setup → Terms
terms_of c demand s = record { search = search_of c demand s; judge = judge_of c s; bound = bound s }

-- ---- the cache

-- the cache is right of these lists
abbrev pub Cached : Columns → Setup → List (List ℕ) → Insertions → Type 0
Cached c s ls cache = Known (cost_of c s) c.l ls cache
