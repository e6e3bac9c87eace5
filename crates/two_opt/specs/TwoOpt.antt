-- A run of 2-opt as the code keeps it: where it stands, and a reversal that was found, which is made already. For src/. Assumes nothing.
use Rattle.std.specs.Prelude.{List, ℕ, ◌<◌, length}
use Rattle.labels.specs.Columns.{Columns, Visits}
use Rattle.descent.specs.Search.{Sweep}
use Rattle.descent.specs.Within.{Reversal}
use Rattle.reversal_places.specs.declared.Terms.{Terms}
use Rattle.reversal_places.specs.declared.Place.{Place}
use Rattle.reversal_places.specs.Places.{Worked, turned_at}
use Rattle.reversals.specs.Reversals.{InSweep, from}

-- the list, and the places from one on still ahead in this sweep
abbrev pub at : List ℕ → Place → Sweep (List ℕ) Reversal
at xs ahead = record { now = xs; ahead = from (length xs) ahead }

-- a search can begin
abbrev pub Ready : Columns → Terms → List ℕ → Place → Type 0
Ready c t xs ahead = Worked c t × Visits c.l xs × InSweep (length xs) ahead

-- a reversal that was made of this list
abbrev pub Apt : Columns → Terms → List ℕ → Place → Type 0
Apt c t xs m = Worked c t × Visits c.l xs × (m.first < m.last) × (m.last < length xs)

-- where the run stood before it was
abbrev pub before : List ℕ → Place → Place → Sweep (List ℕ) Reversal
before xs ahead m = record { now = turned_at xs m; ahead = from (length xs) ahead }
