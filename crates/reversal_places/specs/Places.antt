-- One place of 2-opt's sweep: the constants of a run, the place that follows, and whether the reversal at a place counts and passes. Assumes nothing.
use Rattle.std.specs.Prelude.{◌≡◌, Bool, true, cond, List, [], ℕ, ◌+◌, ◌<◌, ◌≤◌, ltb, Float}
use Rattle.numbers.specs.Operations.{zero64}
use Rattle.numbers.specs.Floor.{gain_floor}
use Rattle.day.specs.Matrix.{scale_of, symmetric}
use Rattle.day.specs.Refusal.{all_plain}
use Rattle.edits.specs.Edits.{reversed}
use Rattle.labels.specs.Columns.{Columns, Formed}
use Rattle.evaluation.specs.Route.{checks_needed}
use Rattle.heads.specs.Head.{Driven}
use Rattle.heads.specs.declared.Head.{Head}
use Rattle.descent.specs.Permitted.{two_opt}
use Rattle.descent.specs.Search.{Search, Judge, ok}
use Rattle.descent.specs.Within.{Reversal, two_opt_search}
use Rattle.deltas.specs.Judged.{float_judge}
use Rattle.engine.specs.Engine.{passing, checks_of, map_of}
use Rattle.reversal_places.specs.declared.Terms.{Terms}
use Rattle.reversal_places.specs.declared.Place.{Place}

-- what a run works out once, before its first move, from the day's columns and the van
pub record Worked (c : Columns) (t : Terms) : Type 0 where
  pub formed : Formed c
  pub depot_there : t.depot < c.l
  pub plain : all_plain c.distances ≡ true
  pub floor : t.floor ≡ gain_floor (scale_of c.distances)
  pub symmetric : t.symmetric ≡ symmetric c.l c.distances
  pub needed : t.needed ≡ checks_needed c.flags t.limits

-- the search of 2-opt on these columns
abbrev pub searching : Columns → Terms → Search (List ℕ) Reversal Reversal
searching c t = two_opt_search (checks_of [] c t.limits t.depot)

-- and how it judges; the fixed cost is in no delta within a list
abbrev pub judging : Columns → Terms → Judge (List ℕ) Reversal Float
judging c t = float_judge two_opt (map_of c.l c.distances t.depot zero64)

-- a head of the list that reaches no further than a place
abbrev pub Shared : Columns → Terms → List ℕ → Head → ℕ → Type 0
Shared c t xs head first = Driven c t.limits.rest t.depot xs head × (head.visits ≤ first)

-- ---- places

-- the reversal of a place
abbrev pub reversal_at : Place → Reversal
reversal_at p = record { first = p.first; last = p.last }

-- `for j in i + 1..n`: the next place of a row
abbrev pub next_in_row : Place → Place
next_in_row p = record { first = p.first; last = p.last + 1 }

-- `for i in 0..n - 1`: the first place of the next row
abbrev pub next_row : Place → Place
next_row p = record { first = p.first + 1; last = p.first + 2 }

-- the place that follows in a sweep of n visits
unfoldable pub place_after : ℕ → Place → Place
place_after n p = cond (ltb (p.last + 1) n) (next_in_row p) (next_row p)

-- ---- moves

-- the list with the visits of a place turned round
abbrev pub turned_at : List ℕ → Place → List ℕ
turned_at xs p = reversed p.first (p.last + 1) xs

-- and whether it passes
abbrev pub turned_passes : Columns → Terms → List ℕ → Place → Bool
turned_passes c t xs p = passing t.needed c t.limits t.depot (turned_at xs p)

-- whether the reversal at a place counts as a gain and passes
unfoldable pub gains : Columns → Terms → List ℕ → Place → Bool
gains c t xs p = ok (searching c t) (judging c t) xs (reversal_at p)
