-- Every permitted rearrangement keeps every sum over the visits: one law of sums is a law of counts and of loads. Assumes nothing.
use mathlib.Core.Path.{◌≡◌}
use mathlib.Core.List.{List, ◌∷◌, ◌++◌}
use Prim.Native.Nat.{ℕ, ◌+◌}
use native.Mathlib.Omega.{arith}
use Rattle.edits.specs.Total.{total, sums}

-- ---- every permitted rearrangement keeps every sum: with `is x` for f, how often each office stands there; with the demand, the load

module _ (f : ℕ → ℕ) where
  -- tails exchanged between two lists
  pub tails_keep : (A B C D : List ℕ) → total f (A ++ D) + total f (C ++ B) ≡ total f (A ++ B) + total f (C ++ D)
  tails_keep A B C D = simp sums (omega arith)

  -- one visit moved from a list to another
  pub moved_keeps : (v : ℕ) (A B C D : List ℕ) → total f (A ++ B) + total f (C ++ v ∷ D) ≡ total f (A ++ v ∷ B) + total f (C ++ D)
  moved_keeps v A B C D = simp sums (omega arith)
