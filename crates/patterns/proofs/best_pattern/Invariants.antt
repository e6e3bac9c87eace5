-- `best_pattern`: what the ways still ahead come to from the best so far is what all come to from nothing on.
use mathlib.Core.Path.{◌≡◌}
use lib.ListN.{length}
use Rattle.labels.specs.Lent.{lent}
use Rattle.patterns.specs.Patterns.{Onto}
use Rattle.patterns.proofs.Choosing.{candidates_from}
use Rattle.patterns.proofs.best_pattern.Given as goal

abbrev pub invariant-loop-number : goal.invariant-loop-number
invariant-loop-number l =
    let c = lent l.columns in
    Onto c l.setup l.list l.place l.initial.best (candidates_from c l.setup l.list l.place 0) l.best (candidates_from c l.setup l.list l.place l.number)
    × (length l.buffer ≡ length l.initial.buffer)
