-- The table of pairs as the run's loops fill it: the laws of crate `pairs`, of an engine's terms, for lists in their tables. Assumes nothing.
use mathlib.Core.Path.{◌≡◌, ap, ◌∙◌}
use mathlib.Core.Logic.{◌≢◌}
use mathlib.Core.List.{List}
use Prim.Native.Nat.{ℕ, ◌+◌, ◌≤◌, ◌<◌}
use lib.ListN.{length, get_or}
use Rattle.lists.specs.Table.{Laid, lists}
use Rattle.lists.proofs.Tables.{at_lists, length_list}
use Rattle.list_changes.specs.Edits.{Edited, relocated}
use Rattle.pairs.specs.Pairs.{Short, nothing, Sized, Before, Renewed}
use Rattle.pairs.specs.declared.PairTable.{PairTable}
use Rattle.pairs.proofs.Kept.{right_start, right_turn, right_row, right_end, renew_both, renew_end}
use Rattle.pairs.proofs.Taken.{short-lists, edited_other, right_moved}
use Rattle.pairs.proofs.Taken as pairs
use Rattle.relocations.specs.Relocations.{Terms, Sound, BestOf, Searched, SearchedBoth, PairsRight, Every}

module _ (t : Terms) (visits lengths : List ℕ) (laid : Laid visits lengths) where
  abbrev Of : (ℕ → ℕ → Type 0) → PairTable → Type 0
  Of = PairsRight t (lists visits lengths) (length lengths)

  abbrev Put : ℕ → ℕ → PairTable → PairTable → Type 0
  Put = Searched t (lists visits lengths)

  abbrev PutBoth : ℕ → ℕ → PairTable → PairTable → Type 0
  PutBoth = SearchedBoth t (lists visits lengths)

  short : Short (lists visits lengths)
  short = short-lists visits lengths laid

  -- an empty list gives no visit
  pub best_empty : (from to : ℕ) → from ≢ to → get_or lengths from 0 ≡ 0 → BestOf t (lists visits lengths) from to (nothing t.bound)
  best_empty from to apart empty =
      pairs.best_empty _ _ _ _ from to apart (ap length (at_lists visits lengths from) ∙ length_list visits lengths laid.add_up from ∙ empty)

  -- row by row
  pub rows_start : (p : PairTable) → Sized p → Of (Before 0 0) p
  rows_start p sized = right_start _ _ _ _ (length lengths) p sized

  pub row_turn : (row column : ℕ) (old new : PairTable) → row < length lengths → column < length lengths → Of (Before row column) old → Put row column old new
      → Of (Before row (column + 1)) new
  row_turn row column old new there here right put = right_turn _ _ _ _ short (length lengths) row column old new laid.few there here right put

  pub row_end : (row column : ℕ) (p : PairTable) → length lengths ≤ column → Of (Before row column) p → Of (Before (row + 1) 0) p
  row_end row column p h right = right_row _ _ _ _ (length lengths) row column p h right

  pub rows_end : (row : ℕ) (p : PairTable) → length lengths ≤ row → Of (Before row 0) p → Of Every p
  rows_end row p h right = right_end _ _ _ _ (length lengths) row p h right

  -- after a move
  pub again_turn : (a b other : ℕ) (p p₁ p₂ : PairTable) → a < length lengths → b < length lengths → other < length lengths → Of (Renewed a b other) p
      → PutBoth a other p p₁ → PutBoth b other p₁ p₂ → Of (Renewed a b (other + 1)) p₂
  again_turn a b other p p₁ p₂ ha hb ho right one two = renew_both _ _ _ _ short (length lengths) a b other p p₁ p₂ laid.few ha hb ho right one two

  pub again_end : (a b other : ℕ) (p : PairTable) → length lengths ≤ other → Of (Renewed a b other) p → Of Every p
  again_end a b other p h right = renew_end _ _ _ _ (length lengths) a b other p h right

-- in the tables that a move leaves
pub moved_right : (t : Terms) → Sound t → (visits lengths visits' lengths' : List ℕ) (from position to place : ℕ) (p : PairTable)
    → Edited visits lengths visits' lengths' (relocated (lists visits lengths) from position to place)
    → PairsRight t (lists visits lengths) (length lengths) Every p
    → PairsRight t (lists visits' lengths') (length lengths') (Renewed from to 0) p
moved_right t sound visits lengths visits' lengths' from position to place p e right =
    right_moved _ _ _ _ _ visits lengths visits' lengths' p from position to place
    (sound.local (lists visits lengths) (lists visits' lengths') from to (edited_other visits lengths visits' lengths' from position to place e)) e right
