-- The insertion cache (relocate.rs, `least_insertion` and `argmin`): for a visit and a list the least insertion delta and the first place that reaches it,
-- not a number while it isn't known; what it becomes when the list changes; and what makes it right. For the contracts of src/. Assumes nothing.
use Rattle.std.specs.Prelude.{◌≡◌, ◌≢◌, Bool, false, cond, ◌||◌, List, [], ℕ, zero, suc, ◌+◌, ◌-◌, ◌*◌, ◌≤◌, ◌<◌, T, ltb, eqb, length, get_or, Float}
use Rattle.std.specs.Float.{nan, inf}
use Rattle.std.specs.Float.Ieee.{lt, le}
use Rattle.std.specs.Float.Ieee.Scale.{finite}
use Rattle.insertions.specs.declared.Least.{Least}
use Rattle.insertions.specs.declared.Insertions.{Insertions}

-- ---- the least of some costs

-- `if insertion_delta < least { least = insertion_delta; least_at = to_pos; }`: the least so far, or one place more where that costs less
unfoldable pub lesser : Least → Float → ℕ → Least
lesser least cost place = cond (lt cost least.figure) (record { figure = cost; place = place }) least

-- `let mut least = f64::INFINITY; .. for to_pos in 0..=to_route.len()`: the scan of m places
unfoldable pub least_below : (ℕ → Float) → ℕ → Least
least_below cost zero = record { figure = inf false; place = 0 }
least_below cost (suc m) = lesser (least_below cost m) (cost m) m

-- a figure is the least of m costs and this place is the first that reaches it: none is below it, and none before the place is as low. A cost that
-- is not a number is neither
pub record LeastAt (cost : ℕ → Float) (m : ℕ) (figure : Float) (place : ℕ) : Type 0 where
  pub there : place < m
  pub is : figure ≡ cost place
  pub least : (k : ℕ) → k < m → lt (cost k) figure ≡ false
  pub first : (k : ℕ) → k < place → le (cost k) figure ≡ false

-- ---- what is known, after a list changed

-- `least_insertion[slot] = f64::NAN`: not known any more
abbrev pub forgotten : Least → Least
forgotten known = record { figure = nan; place = known.place }

-- `joined < known`, `split < known`: a new leg that is lower, or as low and stands first (the Rust keeps the known one then; what is known keeps the first
-- place this way)
unfoldable pub wins : Least → Least → Bool
wins new known = cond (ltb new.place known.place) (le new.figure known.figure) (lt new.figure known.figure)

-- `least_insertion[slot]` and `argmin[slot]` once a new leg was tried
unfoldable pub first_of : Least → Least → Least
first_of known new = cond (wins new known) new known

-- `at == pos || at == pos + 1`: 'the two around the customer vanish'
unfoldable pub vanished : ℕ → ℕ → Bool
vanished place position = eqb place position || eqb place (position + 1)

-- `else if at > pos + 1 { argmin[slot] = at - 1 }`: where a place stands when the visit at `position` has left
unfoldable pub moved_down : ℕ → ℕ → ℕ
moved_down place position = cond (ltb position place) (place - 1) place

-- `else if at > pos { argmin[slot] = at + 1 }`: where it stands when a visit has come in at `position`
unfoldable pub moved_up : ℕ → ℕ → ℕ
moved_up place position = cond (ltb position place) (place + 1) place

-- `after_removal`: 'of its positions only the two around the customer vanish, and one (its neighbours joined) appears'
unfoldable pub least_left : Least → ℕ → Float → Least
least_left known position joined =
    cond (finite known.figure)
    (cond (vanished known.place position) (forgotten known)
    (first_of (record { figure = known.figure; place = moved_down known.place position }) (record { figure = joined; place = position })))
    known

-- `after_insertion`: 'the position it split becomes two'
unfoldable pub least_came : Least → ℕ → Float → Float → Least
least_came known position before behind =
    cond (finite known.figure)
    (cond (eqb known.place position) (forgotten known)
    (first_of (first_of (record { figure = known.figure; place = moved_up known.place position }) (record { figure = before; place = position }))
    (record { figure = behind; place = position + 1 })))
    known

-- ---- the tables

-- DESIGN, 'Where state lives': 64 offices by 16 lists, at 16 times the office plus the list
abbrev pub cell : ℕ → ℕ → ℕ
cell visit list = 16 * visit + list

-- `least_insertion[slot]`, `argmin[slot]`: what the tables say of a visit and a list
abbrev pub known_at : Insertions → ℕ → ℕ → Least
known_at cache visit list = record { figure = get_or cache.figures (cell visit list) nan; place = get_or cache.places (cell visit list) 0 }

-- something was noted of a visit and a list; what is known of the others stays
pub record Noted (visit list : ℕ) (least : Least) (old new : Insertions) : Type 0 where
  pub here : known_at new visit list ≡ least
  pub others : (v s : ℕ) → s < 16 → cell v s ≢ cell visit list → known_at new v s ≡ known_at old v s

-- what is known of a list was changed for each visit below n; what is known of the others stays
pub record Updated (change : ℕ → Least → Least → Type 0) (list n : ℕ) (old new : Insertions) : Type 0 where
  pub here : (v : ℕ) → v < n → change v (known_at old v list) (known_at new v list)
  pub behind : (v : ℕ) → n ≤ v → known_at new v list ≡ known_at old v list
  pub others : (v s : ℕ) → s < 16 → s ≢ list → known_at new v s ≡ known_at old v s

-- the cache is right: whatever is known of a visit and a list is the least of what it costs to insert it into the list as it stands, at the first place
pub record Known (cost : List ℕ → ℕ → ℕ → Float) (n : ℕ) (ls : List (List ℕ)) (cache : Insertions) : Type 0 where
  pub few : n ≤ 64
  pub known : (visit list : ℕ) → visit < n → list < 16 → T (finite (known_at cache visit list).figure)
      → LeastAt (cost (get_or ls list []) visit) (suc (length (get_or ls list []))) (known_at cache visit list).figure (known_at cache visit list).place
