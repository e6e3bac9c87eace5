-- The day as it is lent: columns by location, the distances and the times. Every definition of a day starts here. Assumes nothing.
use Rattle.std.specs.Prelude.{ℕ, ◌/◌, ◌%◌, List, Bool, eqb, ℤ, Float}
use Rattle.std.specs.Borrow.{Bor}

-- 01, the day: 'L locations [..]; columns by location: flags, demand, service, ready, due, penalty. Distances: L times L numbers. Times: the same, or length 0'
pub record Day : Type 0 where
  pub l : ℕ
  pub flags : List ℕ
  pub demand : List ℤ
  pub service : List Float
  pub ready : List Float
  pub due : List Float
  pub penalty : List Float
  pub distances : List Float
  pub times : List Float

-- the day of these columns
abbrev pub day_of : ℕ → List ℕ → List ℤ → List Float → List Float → List Float → List Float → List Float → List Float → Day
day_of l flags demand service ready due penalty distances times = record {
  l = l;
  flags = flags;
  demand = demand;
  service = service;
  ready = ready;
  due = due;
  penalty = penalty;
  distances = distances;
  times = times;
}

-- the day that a call is lent, as its tables stand: for contracts
abbrev pub day_at : ℕ → Bor (List ℕ) → Bor (List ℤ) → Bor (List Float) → Bor (List Float) → Bor (List Float) → Bor (List Float) → Bor (List Float)
    → Bor (List Float) → Day
day_at l flags demand service ready due penalty distances times =
    day_of l flags.now demand.now service.now ready.now due.now penalty.now distances.now times.now

-- 01: bit 0 of a location's flags says 'depot', of a van's 'distance limit'
abbrev pub bit0 : ℕ → Bool
bit0 f = eqb (f % 2) 1

-- bit 1 of a location's flags says 'window', of a van's 'duration limit'
abbrev pub bit1 : ℕ → Bool
bit1 f = eqb (f / 2 % 2) 1

-- bit 2 of a location's flags says 'lateness penalty', of a van's 'break'
abbrev pub bit2 : ℕ → Bool
bit2 f = eqb (f / 4 % 2) 1
