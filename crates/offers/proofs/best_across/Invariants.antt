-- `best_across`: before each visit, the scan over what is left comes to the pair's best, and the cache is right.
use mathlib.Core.Path.{◌≡◌}
use lib.ListN.{length}
use Rattle.offers.proofs.Trying.{Pairing}
use Rattle.labels.specs.Lent.{lent}
use Rattle.offers.proofs.best_across.Given as goal

abbrev pub invariant-loop-position : goal.invariant-loop-position
invariant-loop-position l =
    Pairing (lent l.columns) l.demand l.setup l.visits l.lengths l.from l.to l.giver l.initial.best l.position l.best l.cache
    × (length l.buffer ≡ length l.initial.buffer)
