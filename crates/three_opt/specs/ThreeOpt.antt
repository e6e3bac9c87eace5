-- 3-opt as the code goes about it: the place behind a place, where a run stands, and where a move leads. For the contracts of src/; the engine's own definition is `three-opt` of descent.
-- Assumes nothing.
use Rattle.std.specs.Prelude.{cond, List, [], ℕ, ◌+◌, ◌≤◌, ltb, length}
use Rattle.labels.specs.Columns.{Columns, Visits}
use Rattle.descent.specs.Search.{Sweep}
use Rattle.descent.specs.Within.{Cut, reconnect}
use Rattle.reconnections.specs.Reconnections.{Inside, reconnection}
use Rattle.patterns.specs.Patterns.{Prepared}
use Rattle.patterns.specs.declared.Setup.{Setup}
use Rattle.three_opt.specs.declared.Reconnection.{Reconnection}
use Rattle.reconnections.specs.declared.Place.{Place}

-- the place behind a place of a list of n visits: the last of the three goes on, else the middle one, else the first
unfoldable pub place_after : ℕ → Place → Place
place_after n place =
    cond (ltb (place.k + 1) n)
    (record { i = place.i; j = place.j; k = place.k + 1 })
    (cond (ltb (place.j + 2) n)
    (record { i = place.i; j = place.j + 1; k = place.j + 2 })
    (record { i = place.i + 1; j = place.i + 2; k = place.i + 3 }))

-- the list; no place is ahead, as each sweep starts again
abbrev pub at : List ℕ → Sweep (List ℕ) Cut
at xs = record { now = xs; ahead = [] }

-- a search can begin
pub record Ready (c : Columns) (s : Setup) (xs buffer : List ℕ) : Type 0 where
  pub prepared : Prepared s c
  pub visits : Visits c.l xs
  pub room : length xs ≤ length buffer
  pub four : 4 ≤ length xs

-- a move that can be made
abbrev pub Apt : Columns → Setup → List ℕ → List ℕ → Reconnection → Type 0
Apt c s xs buffer m = Ready c s xs buffer × Inside (length xs) m.place

-- where a move leads
abbrev pub after : List ℕ → Reconnection → Sweep (List ℕ) Cut
after xs m = at (reconnect xs (reconnection m.place m.way))
