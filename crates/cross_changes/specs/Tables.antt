-- What a move makes of the tables: for the contracts of the functions that change them. Assumes nothing.
use Rattle.std.specs.Prelude.{◌≡◌, ◌≢◌, List, ◌++◌, ℕ, zero, suc, ◌-◌, ◌≤◌, ◌<◌, length, get_or, take, drop, replicate, Float}
use Rattle.edits.specs.Total.{SameVisits}
use Rattle.lists.specs.Table.{Laid}
use Rattle.cross_moves.specs.CrossDepot.{Plan, plan_of, of_filled, after_move}
use Rattle.cross_moves.specs.declared.pair.Move.{Move}

-- what making a move asks: a stretch of one list, and a stretch of another
pub record Makes (visits lengths : List ℕ) (m : Move) : Type 0 where
  pub laid : Laid visits lengths
  pub one_there : m.one < length lengths
  pub other_there : m.other < length lengths
  pub apart : m.one ≢ m.other
  pub ordered1 : m.from1 ≤ m.to1
  pub within1 : m.to1 ≤ get_or lengths m.one 0
  pub ordered2 : m.from2 ≤ m.to2
  pub within2 : m.to2 ≤ get_or lengths m.other 0

-- the same move, seen from the other list
abbrev pub turned : Move → Move
turned m =
    record { one = m.other; from1 = m.from2; to1 = m.to2; other = m.one; from2 = m.from1; to2 = m.to1; tested = m.tested }

-- a column by list after the dropping: the entries of the lists that have a visit, and behind them `none`
unfoldable pub packed_by : {A : Type 0} → A → List ℕ → List A → List A
packed_by none lengths xs = of_filled lengths xs ++ replicate (length xs - length (of_filled lengths xs)) none

-- an entry, if its list has a visit
unfoldable pub kept_if : {A : Type 0} → A → ℕ → A → A
kept_if none zero x = none
kept_if none (suc n) x = x

-- of the first `kept` entries of the tables after a move, and of those behind them
pub record Made (p : Plan) (m : Move) (cost1 cost2 : Float) (visits visits' lengths' ids' : List ℕ) (costs' : List Float) (kept : ℕ) : Type 0 where
  pub holds : plan_of visits' (take kept lengths') (take kept ids') (take kept costs') ≡ after_move p m cost1 cost2
  pub few : kept ≤ length lengths'
  pub laid : Laid visits' (take kept lengths')
  pub same : SameVisits visits visits'
  pub no_lengths : drop kept lengths' ≡ replicate (length lengths' - kept) 0
  pub no_ids : drop kept ids' ≡ replicate (length ids' - kept) 0
