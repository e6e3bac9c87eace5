-- What a check reads of a day: its columns but the demand, and its tables. Every definition of a check starts here. Assumes nothing.
use Rattle.std.specs.Prelude.{ℕ, ◌<◌, ◌≤◌, ◌≡◌, List, length, get_or, Float}
use Rattle.std.specs.Borrow.{Bor}
use Rattle.std.specs.Float.{nan}
use Rattle.day.specs.Day.{Day}
use Rattle.day.specs.Matrix.{leg, travel, Tables}
use Rattle.day.specs.Customer.{window_at}
use Rattle.day.specs.Fine.{Shaped}
use Rattle.labels.specs.declared.stop.Stop.{Stop}

-- 01, the day, without the demand: no check reads it
pub record Columns : Type 0 where
  pub l : ℕ
  pub flags : List ℕ
  pub service : List Float
  pub ready : List Float
  pub due : List Float
  pub penalty : List Float
  pub distances : List Float
  pub times : List Float

-- these columns
abbrev pub columns : ℕ → List ℕ → List Float → List Float → List Float → List Float → List Float → List Float → Columns
columns l flags service ready due penalty distances times = record {
  l = l;
  flags = flags;
  service = service;
  ready = ready;
  due = due;
  penalty = penalty;
  distances = distances;
  times = times;
}

-- the columns that a call is lent, as they stand: for contracts
abbrev pub columns_at : ℕ → Bor (List ℕ) → Bor (List Float) → Bor (List Float) → Bor (List Float) → Bor (List Float) → Bor (List Float) → Bor (List Float)
    → Columns
columns_at l flags service ready due penalty distances times =
    columns l flags.now service.now ready.now due.now penalty.now distances.now times.now

-- the columns of a day
abbrev pub columns_of : Day → Columns
columns_of d = columns d.l d.flags d.service d.ready d.due d.penalty d.distances d.times

-- 01: columns by location; 'A value whose flag is off is never read' (`window_at`)
unfoldable pub stop_of : List ℕ → List Float → List Float → List Float → List Float → ℕ → Stop
stop_of flags service ready due penalty k = record { service = get_or service k nan; window = window_at flags ready due penalty k }

-- the stop at a location
abbrev pub stop_at : Columns → ℕ → Stop
stop_at c k = stop_of c.flags c.service c.ready c.due c.penalty k

-- the distance from a place to a place
abbrev pub leg_in : Columns → ℕ → ℕ → Float
leg_in c from to = leg c.l c.distances from to

-- the travel time from a place to a place
abbrev pub travel_in : Columns → ℕ → ℕ → Float
travel_in c from to = travel c.l c.distances c.times from to

-- ---- what a caller shows

-- each column has an entry a location, and the tables are right
pub record Formed (c : Columns) : Type 0 where
  pub flags : length c.flags ≡ c.l
  pub service : length c.service ≡ c.l
  pub ready : length c.ready ≡ c.l
  pub due : length c.due ≡ c.l
  pub penalty : length c.penalty ≡ c.l
  pub tables : Tables c.l c.distances c.times

-- a list of at most 63 visits, each a location
pub record Visits (l : ℕ) (list : List ℕ) : Type 0 where
  pub few : length list ≤ 63
  pub below : (k : ℕ) → k < length list → get_or list k 0 < l

-- ---- laws

-- the columns of a day that is shaped are formed
pub formed : {d : Day} → Shaped d → Formed (columns_of d)
formed s = record { flags = s.flags; service = s.service; ready = s.ready; due = s.due; penalty = s.penalty; tables = s.tables }

-- the columns hold each location
pub stop_in : {c : Columns} {k : ℕ} → Formed c → k < c.l →
    (k < length c.flags) × (k < length c.service) × (k < length c.ready) × (k < length c.due) × (k < length c.penalty)
stop_in f h = (rw f.flags h, rw f.service h, rw f.ready h, rw f.due h, rw f.penalty h)
