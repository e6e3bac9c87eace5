-- `run_moves`: the moves made and the run from here on, with what is left of the limit, are the whole run; the measure is what is left.
use mathlib.Core.Path.{◌≡◌}
use mathlib.Core.List.{[]}
use Prim.Native.Nat.{◌-◌}
use lib.ListN.{length}
use Rattle.lists.specs.Table.{lists}
use Rattle.list_changes.specs.Edits.{Edited}
use Rattle.loads.specs.Loads.{Held}
use Rattle.exchange_sweeps.specs.Exchange.{from, InSweep, next_of}
use Rattle.descent.proofs.Going.{Going}
use Rattle.exchange_sweeps.proofs.run_moves.Given as goal

abbrev pub invariant-loop-exchange : goal.invariant-loop-exchange
invariant-loop-exchange g l =
    let s = g.S.TailSearch in
    let rules = s.rules l.initial.search in
    Going (next_of rules) l.limit (record { now = lists l.initial.visits l.initial.lengths; ahead = [] }) l.moves
    (record { now = lists l.visits l.lengths; ahead = from (length l.lengths) l.ahead })
    × Edited l.initial.visits l.initial.lengths l.visits l.lengths (lists l.visits l.lengths)
    × Held rules.locations l.visits l.lengths
    × InSweep (length l.lengths) l.ahead
    × (l.n ≡ length l.lengths)
    × (s.rules l.search ≡ rules)
    × s.Kept l.search (lists l.visits l.lengths)

abbrev pub decreases-loop-exchange : goal.decreases-loop-exchange
decreases-loop-exchange g l =
    l.limit - l.moves
