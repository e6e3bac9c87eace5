-- The code's places, one after another, are the definition's list of places: each turn takes the first of those ahead, and at the end none is left.
-- Assumes nothing.
use mathlib.Core.Path.{◌≡◌, refl, sym, ap, ◌∙◌}
use mathlib.Core.Bool.{Bool, true, false, cond}
use mathlib.Core.List.{List, [], ◌∷◌}
use Prim.Native.Nat.{ℕ, zero, suc, ◌+◌, ◌-◌, ◌<◌, ◌≤◌}
use native.Mathlib.Numerals.{add-one}
use native.Mathlib.Omega.{arith}
use borrow.Author.Tests.{ltb-true, ltb-false}
use lib.Dec.{ltb}
use lib.ListN.{length}
use Rattle.descent.specs.Within.{reversals}
use Rattle.descent.proofs.Loops.{reversals_from, reversals_start, reversals_turn, reversals-next, reversals_done}
use Rattle.labels.specs.Columns.{Columns}
use Rattle.heads.specs.Head.{at_depot}
use Rattle.heads.proofs.Heads.{depot_driven}
use Rattle.reversal_places.specs.declared.Terms.{Terms}
use Rattle.reversal_places.specs.declared.Place.{Place}
use Rattle.reversal_places.specs.Places.{Worked, Shared, reversal_at, next_in_row, next_row, place_after}
use Rattle.reversals.specs.Reversals.{InSweep, from}

-- behind the last place of a row comes the next row, if there is one
row_over : (n i : ℕ) → suc i < n → reversals_from n i n ≡ reversals_from n (suc i) (suc (suc i))
row_over n i h = go (ltb (suc i) (n - 1)) refl
  where
    go : (b : Bool) → ltb (suc i) (n - 1) ≡ b → reversals_from n i n ≡ reversals_from n (suc i) (suc (suc i))
    go true e = reversals-next n i n (omega arith) (ltb-true (suc i) (n - 1) e)
    go false e =
        let last : n - 1 ≤ suc i = ltb-false (suc i) (n - 1) e in
        reversals_done n i n (omega arith) last ∙ sym (reversals_done n (suc i) (suc (suc i)) (omega arith) (omega arith))

module _ (n : ℕ) (p : Place) (order : p.first < p.last) (there : p.last < n) where
  -- those ahead of a place are those from the next one on
  step : (b : Bool) → ltb (p.last + 1) n ≡ b → from n (cond b (next_in_row p) (next_row p)) ≡ reversals_from n p.first (suc p.last)
  unfolding from
  step true e = rw (add-one p.last)
  step false e =
      let end : suc p.last ≡ n = let h = ltb-false (p.last + 1) n e in omega arith in
      let two : p.first + 2 ≡ suc (suc p.first) = omega arith in
      rw (add-one p.first, two, end) (sym (row_over n p.first (omega arith)))

  pub from_turn : from n p ≡ reversal_at p ∷ from n (place_after n p)
  unfolding from place_after
  from_turn = reversals_turn n p.first p.last there ∙ ap (λ rest. reversal_at p ∷ rest) (sym (step (ltb (p.last + 1) n) refl))

  pub still_in : InSweep n (place_after n p)
  unfolding place_after
  still_in = go (ltb (p.last + 1) n) refl
    where
      go : (b : Bool) → ltb (p.last + 1) n ≡ b → InSweep n (cond b (next_in_row p) (next_row p))
      go true e = let h = ltb-true (p.last + 1) n e in record { ordered = omega arith; ends = λ past. absurd (omega arith) }
      go false e = record { ordered = omega arith; ends = λ past. omega arith }

-- the end of a sweep, and its start
pub from_end : (n : ℕ) (p : Place) → InSweep n p → n ≤ p.last → from n p ≡ []
unfolding from
from_end n p in-sweep past = let h = in-sweep.ends past in reversals_done n p.first p.last past (omega arith)

pub from_start : (n : ℕ) → from n (record { first = 0; last = 1 }) ≡ reversals n
unfolding from
from_start zero = refl
from_start (suc zero) = refl
from_start (suc (suc n)) = sym (reversals_start (suc (suc n)) (omega arith))

pub start_in : (n : ℕ) → InSweep n (record { first = 0; last = 1 })
start_in n = record { ordered = omega arith; ends = λ past. past }

pub none_ahead : (n : ℕ) → InSweep n (record { first = n; last = n + 1 })
none_ahead n = record { ordered = omega arith; ends = λ past. past }

-- how many places are left
pub left_less : (n : ℕ) (p : Place) → p.first < p.last → p.last < n → length (from n (place_after n p)) < length (from n p)
left_less n p order there = rw (from_turn n p order there) (omega arith)

-- ---- the head that the reversals at a place share

pub none_shared : {c : Columns} {t : Terms} (xs : List ℕ) (first : ℕ) → Worked c t → Shared c t xs (at_depot t.depot) first
unfolding at_depot
none_shared xs first w = (depot_driven _ _ _ xs w.depot_there, omega arith)

-- the next place is no further to the front
pub still_behind : (n k : ℕ) (p : Place) → k ≤ p.first → k ≤ (place_after n p).first
unfolding place_after
still_behind n k p h = go (ltb (p.last + 1) n)
  where
    go : (b : Bool) → k ≤ (cond b (next_in_row p) (next_row p)).first
    go true = h
    go false = omega arith
