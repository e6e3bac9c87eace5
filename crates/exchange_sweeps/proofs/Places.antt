-- The code's places, one after another, are the definition's list of pairs: each turn takes the first of those ahead, and at the end none is left.
-- Assumes nothing.
use mathlib.Core.Path.{◌≡◌, refl, sym, ap, ◌∙◌}
use mathlib.Core.Bool.{Bool, true, false, cond}
use mathlib.Core.List.{List, [], ◌∷◌, ◌++◌}
use Prim.Native.Nat.{ℕ, zero, suc, ◌+◌, ◌<◌, ◌≤◌}
use native.Mathlib.Numerals.{add-one}
use native.Mathlib.Omega.{arith}
use borrow.Author.Tests.{ltb-true, ltb-false}
use lib.Dec.{ltb}
use lib.ListN.{length}
use Rattle.descent.specs.Order.{range, each}
use Rattle.descent.specs.Across.{Pair, pairs}
use Rattle.descent.proofs.Loops.{range_step, range_done}
use Rattle.exchange_sweeps.specs.declared.Place.{Place}
use Rattle.exchange_sweeps.specs.Exchange.{pair_at, pair_row, from, place_after, InSweep}

-- the rows from one on
abbrev rows : ℕ → ℕ → List Pair
rows n i = each (range i n) λ r1. pair_row n r1 (suc r1)

-- behind the last place of a row comes the next row
row_over : (n i : ℕ) → suc i < n → pair_row n i n ++ rows n (suc i) ≡ pair_row n (suc i) (suc (suc i)) ++ rows n (suc (suc i))
row_over n i h = rw (range_done n n (omega arith), range_step (suc i) n h)

module _ (n : ℕ) (p : Place) (order : p.one < p.other) (there : p.other < n) where
  -- those ahead of a place are those from the next one on
  step : (b : Bool) → ltb (p.other + 1) n ≡ b
      → from n (cond b (record { one = p.one; other = p.other + 1 }) (record { one = p.one + 1; other = p.one + 2 }))
      ≡ pair_row n p.one (suc p.other) ++ rows n (suc p.one)
  unfolding from
  step true e = rw (add-one p.other)
  step false e =
      let end : suc p.other ≡ n = let h = ltb-false (p.other + 1) n e in omega arith in
      let two : p.one + 2 ≡ suc (suc p.one) = omega arith in
      rw (add-one p.one, two, end) (sym (row_over n p.one (omega arith)))

  first : from n p ≡ pair_at p ∷ (pair_row n p.one (suc p.other) ++ rows n (suc p.one))
  unfolding from
  first = rw (range_step p.other n there)

  pub from_turn : from n p ≡ pair_at p ∷ from n (place_after n p)
  unfolding place_after
  from_turn = first ∙ ap (λ (rest : List Pair). pair_at p ∷ rest) (sym (step (ltb (p.other + 1) n) refl))

  pub still_in : InSweep n (place_after n p)
  unfolding place_after
  still_in = go (ltb (p.other + 1) n) refl
    where
      go : (b : Bool) → ltb (p.other + 1) n ≡ b
          → InSweep n (cond b (record { one = p.one; other = p.other + 1 }) (record { one = p.one + 1; other = p.one + 2 }))
      go true e = let h = ltb-true (p.other + 1) n e in record { ordered = omega arith; ends = λ past. absurd (omega arith) }
      go false e = record { ordered = omega arith; ends = λ past. omega arith }

  -- how many places are left
  pub left_less : length (from n (place_after n p)) < length (from n p)
  left_less = rw from_turn (omega arith)

-- the end of a sweep, and its start
pub from_end : (n : ℕ) (p : Place) → InSweep n p → n ≤ p.other → from n p ≡ []
unfolding from
from_end n p in-sweep past =
    let h = in-sweep.ends past in
    rw (range_done p.other n past, range_done (suc p.one) n (omega arith))

starts : (n : ℕ) → 0 < n → from n (record { one = 0; other = 1 }) ≡ pairs n
unfolding from
starts n h = rw (range_step 0 n h)

pub from_start : (n : ℕ) → from n (record { one = 0; other = 1 }) ≡ pairs n
from_start zero = from_end 0 (record { one = 0; other = 1 }) (record { ordered = omega arith; ends = λ past. omega arith }) (omega arith)
from_start (suc n) = starts (suc n) (omega arith)

pub start_in : (n : ℕ) → InSweep n (record { one = 0; other = 1 })
start_in n = record { ordered = omega arith; ends = λ past. past }

pub none_ahead : (n : ℕ) → InSweep n (record { one = n; other = n + 1 })
none_ahead n = record { ordered = omega arith; ends = λ past. past }

pub nothing_ahead : (n : ℕ) → from n (record { one = n; other = n + 1 }) ≡ []
nothing_ahead n = from_end n (record { one = n; other = n + 1 }) (none_ahead n) (omega arith)
