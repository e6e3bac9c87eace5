-- `first_move`: the first move from the place at hand on is the first from the start on. The measure is how many places are left.
use mathlib.Core.Path.{◌≡◌}
use lib.ListN.{length}
use Rattle.lists.specs.Table.{lists}
use Rattle.exchange_sweeps.specs.Exchange.{from, InSweep, first_at}
use Rattle.exchange_sweeps.proofs.first_move.Given as goal

abbrev pub invariant-loop-place : goal.invariant-loop-place
invariant-loop-place g l =
    let first = first_at (g.S.TailSearch.rules l.search) (lists l.visits l.lengths) in
    (l.n ≡ length l.lengths) × InSweep (length l.lengths) l.place
    × (first (from (length l.lengths) l.place) ≡ first (from (length l.lengths) l.initial.place))

abbrev pub decreases-loop-place : goal.decreases-loop-place
decreases-loop-place g l =
    length (from (length l.lengths) l.place)
