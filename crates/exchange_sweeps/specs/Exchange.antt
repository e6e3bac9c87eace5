-- Tail exchange as its functions state it: the exchange to take at a pair, the pairs of lists one after another, and where a move leads, whichever exchanges
-- pass and however they are judged. For src/, `exchange` and `soft_exchange`, which give the rules. Assumes nothing.
use Rattle.std.specs.Prelude.{Bool, cond, List, ◌++◌, map, ℕ, suc, ◌+◌, ◌≤◌, ◌<◌, ltb, length, Float, Option, Some, None}
use Rattle.std.proofs.Math.Option.{Option as Maybe, none, some}
use Rattle.list_changes.specs.Edits.{tails_exchanged, Cuts}
use Rattle.descent.specs.Order.{range, each}
use Rattle.descent.specs.Search.{Search, Judge, Sweep, taken, first_move, next}
use Rattle.descent.specs.Across.{Pair, Tails}
use Rattle.tails.specs.Best.{exchanging}
use Rattle.tail_candidates.specs.declared.Cut.{Cut}
use Rattle.exchange_sweeps.specs.declared.Place.{Place}
use Rattle.exchange_sweeps.specs.declared.Exchange.{Exchange}

-- what a search goes by: the locations of its day, which exchanges pass, and how one is judged
pub record Rules : Type 0 where
  pub locations : ℕ
  pub passes : List (List ℕ) → Tails → Bool
  pub judge : Judge (List (List ℕ)) Tails Float

-- the search by these rules
abbrev pub search_of : Rules → Search (List (List ℕ)) Pair Tails
search_of rules = exchanging rules.passes

-- the pair of lists that a place is
abbrev pub pair_at : Place → Pair
pair_at p = record { one = p.one; other = p.other }

-- the exchange that the cuts of a pair are
unfoldable pub moved_by : Pair → Option Cut → Maybe Tails
moved_by p None = none
moved_by p (Some cut) = some (record { pair = p; cut1 = cut.one; cut2 = cut.other })

-- the exchange to take at a pair
abbrev pub taken_at : Rules → List (List ℕ) → Pair → Maybe Tails
taken_at rules = taken (search_of rules) rules.judge

-- ---- the pairs of lists

-- a row of pairs
abbrev pub pair_row : ℕ → ℕ → ℕ → List Pair
pair_row n i j = map (λ r2. record { one = i; other = r2 }) (range j n)

-- those of n lists from a place on: the rest of its row, and the rows behind it
unfoldable pub from : ℕ → Place → List Pair
from n p = pair_row n p.one p.other ++ each (range (suc p.one) n) λ r1. pair_row n r1 (suc r1)

-- the place that follows: the next of the row, or the first of the next row
unfoldable pub place_after : ℕ → Place → Place
place_after n p = cond (ltb (p.other + 1) n) (record { one = p.one; other = p.other + 1 }) (record { one = p.one + 1; other = p.one + 2 })

-- a place of a sweep over n lists; or, where its second list is past the last, the end of the sweep
pub record InSweep (n : ℕ) (p : Place) : Type 0 where
  pub ordered : p.one < p.other
  pub ends : n ≤ p.other → n ≤ p.one + 1

-- ---- moves

-- the first move at some pairs
abbrev pub first_at : Rules → List (List ℕ) → List Pair → Maybe (Sweep (List (List ℕ)) Pair)
first_at rules = first_move (search_of rules) rules.judge

-- the next move of a run
abbrev pub next_of : Rules → Sweep (List (List ℕ)) Pair → Maybe (Sweep (List (List ℕ)) Pair)
next_of rules = next (search_of rules) rules.judge

-- the lists with an exchange made
abbrev pub made_by : List (List ℕ) → Exchange → List (List ℕ)
made_by ls e = tails_exchanged ls e.place.one e.place.other e.cut.one e.cut.other

-- where an exchange that was found leads: the lists with the tails exchanged, and the pairs still ahead in this sweep
unfoldable pub leads : List (List ℕ) → Option Exchange → Maybe (Sweep (List (List ℕ)) Pair)
leads ls None = none
leads ls (Some e) = some (record { now = made_by ls e; ahead = from (length ls) (place_after (length ls) e.place) })

-- an exchange can be made
abbrev pub Makeable : List ℕ → List ℕ → Exchange → Type 0
Makeable visits lengths e = Cuts visits lengths e.place.one e.place.other e.cut.one e.cut.other
