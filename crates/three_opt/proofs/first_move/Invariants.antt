-- `first_move`: the next move is the first from the place at hand on. The places ahead get fewer.
use mathlib.Core.Path.{◌≡◌}
use lib.ListN.{length}
use Rattle.three_opt.proofs.Places.{cuts_from}
use Rattle.three_opt.proofs.Sweeping.{Sweeping}
use Rattle.labels.specs.Lent.{lent}
use Rattle.three_opt.proofs.first_move.Given as goal

abbrev pub invariant-loop-place : goal.invariant-loop-place
invariant-loop-place l =
    Sweeping (lent l.columns) l.setup.limits l.setup.depot l.list l.place × (length l.buffer ≡ length l.initial.buffer)

abbrev pub decreases-loop-place : goal.decreases-loop-place
decreases-loop-place l =
    length (cuts_from (length l.list) l.place)
