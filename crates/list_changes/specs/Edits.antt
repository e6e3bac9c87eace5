-- The edits of lists of visits: as a list of lists, and what they make of the two tables. For the contracts of src/ and for the engines
-- across lists. Assumes nothing.
use Rattle.std.specs.Prelude.{◌≡◌, ◌≢◌, cond, List, [], ◌∷◌, ◌++◌, ℕ, zero, suc, ◌+◌, ◌-◌, ◌≤◌, ◌<◌, ltb, length, get_or, set, take, drop, replicate}
use Rattle.edits.specs.Total.{SameVisits}
use Rattle.edits.specs.Edits.{exchanged}
use Rattle.lists.specs.Table.{Laid, lists}

-- list r of the lists
abbrev pub at : List (List ℕ) → ℕ → List ℕ
at ls r = get_or ls r []

-- what every edit across lists says of the tables before and after it: they then hold the lists ls, under the same numbers, laid out as before, and with
-- the same visits
pub record Edited (visits lengths visits' lengths' : List ℕ) (ls : List (List ℕ)) : Type 0 where
  pub holds : lists visits' lengths' ≡ ls
  pub number : length lengths' ≡ length lengths
  pub laid : Laid visits' lengths'
  pub same : SameVisits visits visits'

-- ---- 01, relocate: 'one visit goes to any place of another list': the visit at `position` of list `from`, to `place` of list `to`

-- the list that it leaves
abbrev pub giver : List (List ℕ) → ℕ → ℕ → List ℕ
giver ls from position = take position (at ls from) ++ drop (suc position) (at ls from)

-- the list that it goes to
abbrev pub receiver : List (List ℕ) → ℕ → ℕ → ℕ → ℕ → List ℕ
receiver ls from position to place = take place (at ls to) ++ get_or (at ls from) position 0 ∷ drop place (at ls to)

-- the lists with both
unfoldable pub relocated : List (List ℕ) → ℕ → ℕ → ℕ → ℕ → List (List ℕ)
relocated ls from position to place = set (set ls from (giver ls from position)) to (receiver ls from position to place)

-- what a call asks: a visit of one list, and a place of another
pub record Relocates (visits lengths : List ℕ) (from position to place : ℕ) : Type 0 where
  pub laid : Laid visits lengths
  pub gives : from < length lengths
  pub takes : to < length lengths
  pub apart : from ≢ to
  pub visit_there : position < get_or lengths from 0
  pub place_there : place ≤ get_or lengths to 0

-- the table with the visit at place p put before the one at place q
unfoldable pub moved_one : ℕ → ℕ → List ℕ → List ℕ
moved_one p q visits = cond (ltb p q) (exchanged p (p + 1) q visits) (exchanged q p (p + 1) visits)

-- the lengths with one visit less and one more
unfoldable pub length_moved : ℕ → ℕ → List ℕ → List ℕ
length_moved from to lengths = set (set lengths from (get_or lengths from 0 - 1)) to (get_or lengths to 0 + 1)

-- ---- 01, tail exchange: list `one` keeps `cut1` visits, list `other` keeps `cut2`, and their tails change places

-- the first cut1 of a list, and behind them the other's tail
abbrev pub joined : List ℕ → ℕ → List ℕ → ℕ → List ℕ
joined xs cut1 ys cut2 = take cut1 xs ++ drop cut2 ys

-- the lists with both
unfoldable pub tails_exchanged : List (List ℕ) → ℕ → ℕ → ℕ → ℕ → List (List ℕ)
tails_exchanged ls one other cut1 cut2 =
    set (set ls one (joined (at ls one) cut1 (at ls other) cut2)) other (joined (at ls other) cut2 (at ls one) cut1)

-- what a call asks: two lists in their order, and a cut of each
pub record Cuts (visits lengths : List ℕ) (one other cut1 cut2 : ℕ) : Type 0 where
  pub laid : Laid visits lengths
  pub before : one < other
  pub there : other < length lengths
  pub within1 : cut1 ≤ get_or lengths one 0
  pub within2 : cut2 ≤ get_or lengths other 0

-- the lengths of the two: what each keeps, and the other's tail
unfoldable pub tail_lengths : ℕ → ℕ → ℕ → ℕ → List ℕ → List ℕ
tail_lengths one other cut1 cut2 lengths =
    set (set lengths one (cut1 + (get_or lengths other 0 - cut2))) other (cut2 + (get_or lengths one 0 - cut1))

-- ---- 01: 'empty lists dropped in order. [..] Dropped places leave length 0 [..] at the end'

-- the lists that have a visit, in their order
abbrev pub filled : List (List ℕ) → List (List ℕ)
filled [] = []
filled ([] ∷ ls) = filled ls
filled ((x ∷ xs) ∷ ls) = (x ∷ xs) ∷ filled ls

-- their lengths: those that aren't 0
unfoldable pub nonzero : List ℕ → List ℕ
nonzero [] = []
nonzero (zero ∷ ns) = nonzero ns
nonzero (suc n ∷ ns) = suc n ∷ nonzero ns

-- the table of lengths after the dropping
unfoldable pub packed : List ℕ → List ℕ
packed lengths = nonzero lengths ++ replicate (length lengths - length (nonzero lengths)) 0
