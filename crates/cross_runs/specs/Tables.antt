-- What a run hands back: for the contract of `descend`. Assumes nothing.
use Rattle.std.specs.Prelude.{◌≡◌, List, ◌++◌, ℕ, ◌-◌, length, replicate}
use Rattle.lists.specs.Table.{flat, lengths_of}
use Rattle.engine.specs.Engine.{ended_as}
use Rattle.cross_moves.specs.CrossDepot.{Ran}
use Rattle.cross_runs.specs.declared.Crossed.{Crossed}

-- 01: 'Dropped places leave length 0, and vehicle id 0, at the end': the tables, of `number` lists, hold the lists handed back, and behind them nothing
pub record Handed (back : List (List ℕ)) (back-ids : List ℕ) (number : ℕ) (visits lengths ids : List ℕ) : Type 0 where
  pub visits_are : visits ≡ flat back
  pub lengths_are : lengths ≡ lengths_of back ++ replicate (number - length back) 0
  pub ids_are : ids ≡ back-ids ++ replicate (number - length back) 0

-- 01: 'An engine answers `settled` or `stopped`, the moves made'; 'the answer says how many lists remain'
abbrev pub crossed_of : Ran → Crossed
crossed_of ran = record { ended = ended_as ran.word ran.moves; lists = length ran.lists }
