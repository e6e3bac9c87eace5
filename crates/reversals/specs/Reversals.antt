-- 2-opt as the code walks it: the places from one on, and what a search from a place on answers. Assumes nothing.
use Rattle.std.specs.Prelude.{◌≡◌, List, ℕ, ◌+◌, ◌<◌, ◌≤◌, length, Option, Some, None}
use Rattle.std.proofs.Math.Option as maybe
use Rattle.std.proofs.Math.Option.{none, some}
use Rattle.labels.specs.Columns.{Columns}
use Rattle.descent.specs.Search.{Sweep, first_move, next}
use Rattle.descent.specs.Within.{Reversal}
use Rattle.descent.proofs.Loops.{reversals_from}
use Rattle.reversal_places.specs.declared.Terms.{Terms}
use Rattle.reversal_places.specs.declared.Place.{Place}
use Rattle.reversal_places.specs.Places.{searching, judging, place_after, turned_at}

-- ---- places

-- a place of a sweep of n visits; or, where its end is past the last visit, the end of the sweep
pub record InSweep (n : ℕ) (p : Place) : Type 0 where
  pub ordered : p.first < p.last
  pub ends : n ≤ p.last → n ≤ p.first + 1

-- the places from one on
unfoldable pub from : ℕ → Place → List Reversal
from n p = reversals_from n p.first p.last

-- ---- moves

-- the first move at some places
unfoldable pub first_turn : Columns → Terms → List ℕ → List Reversal → maybe.Option (Sweep (List ℕ) Reversal)
first_turn c t = first_move (searching c t) (judging c t)

-- the next move of a run
unfoldable pub next_turn : Columns → Terms → Sweep (List ℕ) Reversal → maybe.Option (Sweep (List ℕ) Reversal)
next_turn c t = next (searching c t) (judging c t)

-- what a search that found this leads to. 01: 'it goes on from there'
unfoldable pub led : List ℕ → Option Place → maybe.Option (Sweep (List ℕ) Reversal)
led xs None = none
led xs (Some p) = some (record { now = turned_at xs p; ahead = from (length xs) (place_after (length xs) p) })

-- what it leaves of the list
unfoldable pub leaves : List ℕ → Option Place → List ℕ
leaves xs None = xs
leaves xs (Some p) = turned_at xs p

-- a place that was found has its visits
unfoldable pub Inside : ℕ → Option Place → Type 0
Inside n None = Unit {0}
Inside n (Some p) = (p.first < p.last) × (p.last < n)

-- a search that should lead to `move` has found this, and made it of the list
pub record Searched (move : maybe.Option (Sweep (List ℕ) Reversal)) (before after : List ℕ) (found : Option Place) : Type 0 where
  pub leads : led before found ≡ move
  pub left : after ≡ leaves before found
  pub inside : Inside (length before) found
