-- A run of tail exchange or relocate over the lists of a day, soft or not. For the contracts of the entries across lists. Assumes nothing.
use Rattle.std.specs.Prelude.{false, cond, List, [], ◌∷◌, ℕ, ℤ, Float}
use Rattle.numbers.specs.Floor.{gain_floor}
use Rattle.day.specs.Matrix.{scale_of}
use Rattle.day.specs.Customer.{has_soft_windows}
use Rattle.day.specs.declared.vehicle.RouteLimits.{RouteLimits}
use Rattle.labels.specs.Columns.{Columns}
use Rattle.descent.specs.Permitted.{Checks, tail_exchange, relocate}
use Rattle.descent.specs.Search.{Word, Outcome, Sweep}
use Rattle.descent.specs.Engines.{run_of}
use Rattle.deltas.specs.Judged.{Map, float_judge}
use Rattle.engine.specs.Engine.{checks_of, map_of}
use Rattle.loads.specs.Loads.{boxes}
use Rattle.soft_exchange.specs.SoftExchange.{soft_exchange_run}
use Rattle.soft_relocate.specs.SoftRelocate.{soft_relocate_run}

-- what a run leaves: the lists under their numbers, its end word and the moves made
pub record Ran : Type 0 where
  pub lists : List (List ℕ)
  pub word : Word
  pub moves : ℕ

-- the lists that the last move left
abbrev pub ran_of : {Place : Type 0} → Outcome (Sweep (List (List ℕ)) Place) → Ran
ran_of run = record { lists = run.last.now; word = run.word; moves = run.moves }

-- what a run reads of a day and a van
pub record Setting : Type 0 where
  pub columns : Columns
  pub demand : List ℤ
  pub limits : RouteLimits
  pub capacity : ℤ
  pub fixed : Float
  pub depot : ℕ

-- the same of a call's columns and numbers: for contracts
abbrev pub setting_at : Columns → List ℤ → RouteLimits → ℤ → Float → ℕ → Setting
setting_at c demand limits capacity fixed depot =
    record { columns = c; demand = demand; limits = limits; capacity = capacity; fixed = fixed; depot = depot }

-- what a list must meet: the capacity, and 'passes'
abbrev pub checks_in : Setting → Checks
checks_in s = checks_of (boxes s.demand s.capacity ∷ []) s.columns s.limits s.depot

-- 01, Modules, 2: the least gain that counts, from the whole table
abbrev pub floor_in : Setting → Float
floor_in s = gain_floor (scale_of s.columns.distances)

-- what the deltas read: the table, the van's depot and its `fixed_cost_in_distance`
abbrev pub map_in : Setting → Map
map_in s = map_of s.columns.l s.columns.distances s.depot s.fixed

-- tail exchange without soft windows: the run of demand 3, judged by its f64 delta
unfoldable pub hard_exchange : Setting → ℕ → List (List ℕ) → Ran
hard_exchange s limit ls = ran_of (run_of tail_exchange (checks_in s) (float_judge tail_exchange (map_in s)) limit ls)

-- 01, Modules, 9: with a soft window anywhere on the day the same exchanges are judged by whole effective costs
unfoldable pub exchange_ran : Setting → ℕ → List (List ℕ) → Ran
exchange_ran s limit ls =
    cond (has_soft_windows s.columns.flags)
    (ran_of (soft_exchange_run s.columns s.demand s.limits s.capacity s.depot (floor_in s) limit ls))
    (hard_exchange s limit ls)

-- relocate without soft windows; the giver isn't tested
unfoldable pub hard_relocate : Setting → ℕ → List (List ℕ) → Ran
hard_relocate s limit ls = ran_of (run_of (relocate false) (checks_in s) (float_judge (relocate false) (map_in s)) limit ls)

-- 01, Modules, 8: with a soft window anywhere on the day both lists of a move are priced whole
unfoldable pub relocate_ran : Setting → ℕ → List (List ℕ) → Ran
relocate_ran s limit ls =
    cond (has_soft_windows s.columns.flags)
    (ran_of (soft_relocate_run s.columns s.demand s.limits s.capacity s.fixed s.depot (floor_in s) limit ls))
    (hard_relocate s limit ls)
