-- The table of pairs as a run of any relocate engine keeps it: the engine's terms, and `pairs`' definitions of its delta and test. For the contracts of src/
-- and of the engines. Assumes nothing.
use Rattle.std.specs.Prelude.{◌≡◌, ◌≢◌, List, ℕ, Float}
use Rattle.descent.specs.Search.{Search, Judge}
use Rattle.descent.specs.Across.{at, Relocation}
use Rattle.pairs.specs.Pairs.{IsBest, Stored, StoredBoth, RightWhere, Agree}
use Rattle.pairs.specs.declared.Choice.{Choice}
use Rattle.pairs.specs.declared.PairTable.{PairTable}
use Rattle.pairs.proofs.Taken.{Relocating}

-- ---- an engine's terms

-- what it searches for, how it judges, and the bound below which a delta counts
pub record Terms : Type 0 where
  pub search : Search (List (List ℕ)) Unit Relocation
  pub judge : Judge (List (List ℕ)) Relocation Float
  pub bound : Float

-- it searches for relocations, and a move's delta and test are read off the move's own two lists
pub record Sound (t : Terms) : Type 0 where
  pub relocating : Relocating t.search t.judge t.bound
  pub local : (ls ls' : List (List ℕ)) (a b : ℕ) → ((r : ℕ) → r ≢ a → r ≢ b → at ls' r ≡ at ls r)
      → Agree (t.judge.delta ls) (t.judge.delta ls') (t.search.passes ls) (t.search.passes ls') ls ls' a b

-- ---- the table

module _ (t : Terms) (ls : List (List ℕ)) where
  -- a choice is the best of a pair
  abbrev pub BestOf : ℕ → ℕ → Choice → Type 0
  BestOf = IsBest (t.judge.delta ls) (t.search.passes ls) t.bound ls

  -- a pair was searched, and its best put into the table
  abbrev pub Searched : ℕ → ℕ → PairTable → PairTable → Type 0
  Searched = Stored (t.judge.delta ls) (t.search.passes ls) t.bound ls

  -- two lists were, both ways
  abbrev pub SearchedBoth : ℕ → ℕ → PairTable → PairTable → Type 0
  SearchedBoth = StoredBoth (t.judge.delta ls) (t.search.passes ls) t.bound ls

  -- the table of n lists is right of the pairs that are done
  abbrev pub PairsRight : ℕ → (ℕ → ℕ → Type 0) → PairTable → Type 0
  PairsRight = RightWhere (t.judge.delta ls) (t.search.passes ls) t.bound ls

-- every pair
abbrev pub Every : ℕ → ℕ → Type 0
Every from to = Unit {0}
