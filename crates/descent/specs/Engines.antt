-- The five engines of demand 3 by name, and their runs. Assumes nothing.
use Rattle.std.specs.Prelude.{[], ℕ}
use Rattle.descent.specs.Permitted.{Checks, Engine, two_opt, three_opt, or_opt, tail_exchange, relocate, State}
use Rattle.descent.specs.Search.{Search, Judge, Sweep, Outcome, next, run}
use Rattle.descent.specs.Within.{Reversal, two_opt_search, Piece, or_opt_search, Cut, Reconnection, three_opt_search}
use Rattle.descent.specs.Across.{Pair, Tails, tail_exchange_search, Relocation, relocate_search}

-- where an engine looks for a move
abbrev pub Place : Engine → Type 0
Place two_opt = Reversal
Place three_opt = Cut
Place (or_opt last) = ℕ
Place tail_exchange = Pair
Place (relocate giver-tested) = Unit

-- what it tries there
abbrev pub Move : Engine → Type 0
Move two_opt = Reversal
Move three_opt = Reconnection
Move (or_opt last) = Piece
Move tail_exchange = Tails
Move (relocate giver-tested) = Relocation

-- its search
abbrev pub engine_search : (e : Engine) → Checks → Search (State e) (Place e) (Move e)
engine_search two_opt = two_opt_search
engine_search three_opt = three_opt_search
engine_search (or_opt last) = or_opt_search last
engine_search tail_exchange = tail_exchange_search
engine_search (relocate giver-tested) = relocate_search giver-tested

-- its run: 'these moves, their order and the end word are those of the engine's definition'
unfoldable pub run_of : {Value : Type 0} (e : Engine) → Checks → Judge (State e) (Move e) Value → ℕ → State e → Outcome (Sweep (State e) (Place e))
run_of e checks judge limit x = run (next (engine_search e checks) judge) limit (record { now = x; ahead = [] })
