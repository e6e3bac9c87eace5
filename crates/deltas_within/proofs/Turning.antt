-- The loop over a turned piece's legs: the sum so far and the legs still ahead make the whole, at the start, after a turn and at the end. Assumes nothing.
use mathlib.Core.Path.{◌≡◌}
use mathlib.Core.List.{List}
use Prim.Native.Nat.{ℕ, suc, ◌+◌, ◌≤◌, ◌<◌}
use native.Mathlib.Numerals.{add-one}
use native.Mathlib.Omega.{arith}
use lib.ListN.{length, get_or}
use lib.Seq.{slice, slice-cons, slice_empty}
use lib.Ieee.{Float}
use Rattle.numbers.specs.Operations.{◌⊕◌, ◌⊖◌, zero64}
use Rattle.deltas.specs.Changes.{turned_legs, reversal_delta}

module _ (d : ℕ → ℕ → Float) (xs : List ℕ) (last : ℕ) (there : last < length xs) where
  -- what is left of the piece behind its visit k, added to a sum
  abbrev pub left_over : Float → ℕ → Float
  left_over sum k = turned_legs d sum (get_or xs k 0) (slice (k + 1) (last + 1) xs)

  pub turning_starts : (first : ℕ) → first ≤ last → left_over zero64 first ≡ reversal_delta d (slice first (last + 1) xs)
  unfolding reversal_delta
  turning_starts first h = rw (add-one first, add-one last, slice-cons first (suc last) xs 0 (omega arith) there)

  pub turning_turns : (sum : Float) (k : ℕ) → k < last
      → left_over (sum ⊕ (d (get_or xs (k + 1) 0) (get_or xs k 0) ⊖ d (get_or xs k 0) (get_or xs (k + 1) 0))) (k + 1) ≡ left_over sum k
  unfolding turned_legs
  turning_turns sum k h = rw (add-one (k + 1), add-one k, add-one last, slice-cons (suc k) (suc last) xs 0 (omega arith) there)

  pub turning_ends : (sum : Float) (k : ℕ) → k ≤ last → last ≤ k → left_over sum k ≡ sum
  unfolding turned_legs
  turning_ends sum k h t = let e : k ≡ last = omega arith in rw (e, slice_empty (last + 1) xs)
