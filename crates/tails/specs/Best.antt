-- The best tail exchange of two lists as the functions state it: the loops over their cuts, by any delta. For src/ and the engines; the
-- engine's own definition is `tail-exchange` of descent. Assumes nothing.
use Rattle.std.specs.Prelude.{Bool, List, ℕ, suc, length, set, Float}
use Rattle.descent.specs.Order.{range, scan}
use Rattle.descent.specs.Search.{goes_on, Search}
use Rattle.descent.specs.Across.{Pair, Tails, pairs, tail_cuts, new1, new2}
use Rattle.tail_candidates.specs.Choice.{nothing, better_by}
use Rattle.tail_candidates.specs.declared.Choice.{Choice}

-- tail exchange, by which exchanges pass: the pairs of lists, their cuts, and the lists with the tails exchanged
abbrev pub exchanging : (List (List ℕ) → Tails → Bool) → Search (List (List ℕ)) Pair Tails
exchanging passes = record {
  places = λ ls. pairs (length ls);
  candidates = tail_cuts;
  passes = passes;
  made = λ ls t. set (set ls t.pair.one (new1 ls t)) t.pair.other (new2 ls t);
  after = goes_on;
}

-- two lists of n1 and n2 visits, by what an exchange changes and whether it passes
module _ (delta : ℕ → ℕ → Float) (pass : ℕ → ℕ → Bool) where
  -- `for cut2 in 1..=n2`
  unfoldable pub row_by : ℕ → ℕ → Choice → Choice
  row_by n2 cut1 = scan (better_by delta pass cut1) (range 1 (suc n2))

  -- `for cut1 in 1..=n1`, from nothing on
  unfoldable pub best_by : ℕ → ℕ → Float → Choice
  best_by n1 n2 floor = scan (row_by n2) (range 1 (suc n1)) (nothing floor)
