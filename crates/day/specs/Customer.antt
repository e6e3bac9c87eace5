-- models/customer.rs: the window of a location, the depots, and whether a day has windows at all. Assumes nothing.
use Prim.Native.Nat.{ℕ, suc, ◌+◌, ◌<◌, ◌≤◌, max}
use Rattle.std.proofs.Common.{add-one, drop_of_length-le}
use native.Mathlib.Omega.{arith}
use Rattle.std.specs.Prelude.{◌≡◌, List, [], ◌∷◌, Bool, true, false, cond, ◌&&◌, ◌||◌, length, get_or, drop, Float}
use Rattle.std.proofs.Math.Seq.{drop-cons}
use Rattle.std.specs.Float.{nan}
use Rattle.std.specs.Float.Ieee.{lt}
use Rattle.numbers.specs.Operations.{◌⊖◌, zero64}
use Rattle.day.specs.Day.{bit0, bit1, bit2}
use Rattle.day.specs.declared.customer.TimeWindow.{TimeWindow}
use Rattle.day.specs.declared.customer.Window.{Window}
use Rattle.day.specs.declared.customer.Window.TheVariants.{Open, Hard, Soft}

-- 01, module 3: 'late if arrival is above due'
unfoldable pub is_violated : TimeWindow → Float → Bool
is_violated w arrival = lt w.due arrival

-- 'waiting is ready minus arrival if arrival is below ready, else 0'
unfoldable pub waiting_time : TimeWindow → Float → Float
waiting_time w arrival = cond (lt arrival w.ready) (w.ready ⊖ arrival) zero64

-- 'lateness is arrival minus due if late, else 0'
unfoldable pub lateness_at : TimeWindow → Float → Float
lateness_at w arrival = cond (is_violated w arrival) (arrival ⊖ w.due) zero64

-- the window that the columns give a location: 'A value whose flag is off is never read'; 'A soft window is a location with bits 1 and 2'
unfoldable pub window_at : List ℕ → List Float → List Float → List Float → ℕ → Window
window_at flags ready due penalty k =
    let window : TimeWindow = record { ready = get_or ready k nan; due = get_or due k nan } in
    cond (bit1 (get_or flags k 0)) (cond (bit2 (get_or flags k 0)) (Soft window (get_or penalty k nan)) (Hard window)) Open

-- the flagged locations that lead the table
unfoldable pub leading : List ℕ → ℕ
leading [] = 0
leading (f ∷ fs) = cond (bit0 f) (suc (leading fs)) 0

-- 01: 'Depots are the leading flagged locations, at least one (`num_depots`); with none flagged, location 0'
unfoldable pub num_depots : List ℕ → ℕ
num_depots flags = max 1 (leading flags)

-- some entry passes a test
unfoldable pub some_of : (ℕ → Bool) → List ℕ → Bool
some_of test [] = false
some_of test (f ∷ fs) = test f || some_of test fs

-- `has_time_windows`: a location has a window
unfoldable pub has_time_windows : List ℕ → Bool
has_time_windows flags = some_of bit1 flags

-- 01: 'A soft window is a location with bits 1 and 2'
abbrev pub is_soft : ℕ → Bool
is_soft f = bit1 f && bit2 f

-- `has_soft_windows`: a location has a soft window
unfoldable pub has_soft_windows : List ℕ → Bool
has_soft_windows flags = some_of is_soft flags

-- ---- laws: what a loop over the flags knows at each turn

module _ (flags : List ℕ) (i : ℕ) where
  -- the flags before i all count, and the count of the rest is still to come
  abbrev pub Counted : Type 0
  Counted = leading flags ≡ i + leading (drop i flags)

  -- an unflagged location ends the leading ones
  pub count_stops : Counted → i < length flags → bit0 (get_or flags i 0) ≡ false → i ≡ leading flags
  unfolding leading
  count_stops k h e =
      let g : leading flags ≡ i + 0 = rw (drop-cons flags i 0 h, e) at k in
      omega arith

  -- a flagged one is one more
  pub count_grows : Counted → i < length flags → bit0 (get_or flags i 0) ≡ true → leading flags ≡ (i + 1) + leading (drop (i + 1) flags)
  unfolding leading
  count_grows k h e =
      let g : leading flags ≡ i + suc (leading (drop (suc i) flags)) = rw (drop-cons flags i 0 h, e) at k in
      rw (add-one i, g) (omega arith)

  -- none is left
  pub count_ends : Counted → length flags ≤ i → i ≡ leading flags
  unfolding leading
  count_ends k h =
      let g : leading flags ≡ i + 0 = rw (drop_of_length-le flags h) at k in
      omega arith

  module _ (test : ℕ → Bool) where
    -- the entry at i passes
    pub some_here : i < length flags → test (get_or flags i 0) ≡ true → true ≡ some_of test (drop i flags)
    unfolding some_of
    some_here h e = rw (drop-cons flags i 0 h, e)

    -- it does not: the rest decides
    pub some_later : i < length flags → test (get_or flags i 0) ≡ false → some_of test (drop i flags) ≡ some_of test (drop (i + 1) flags)
    unfolding some_of
    some_later h e = rw (add-one, drop-cons flags i 0 h, e)

    -- none is left
    pub some_ends : length flags ≤ i → false ≡ some_of test (drop i flags)
    unfolding some_of
    some_ends h = rw (drop_of_length-le flags h)
