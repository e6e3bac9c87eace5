-- `best_of_pair`: before each visit, the best after the offers of the visits from here on is the best after those of all; the giver's head is driven on.
use mathlib.Core.Path.{◌≡◌}
use Prim.Native.Nat.{◌-◌, ◌≤◌}
use lib.ListN.{length}
use Rattle.descent.specs.Order.{range}
use Rattle.pairs.specs.Pairs.{nothing}
use Rattle.soft_places.specs.Places.{DrivenBy}
use Rattle.soft_offers.specs.Offers.{bound, best_offers}
use Rattle.labels.specs.Lent.{lent}
use Rattle.soft_offers.proofs.best_of_pair.Given as goal

abbrev pub invariant-loop-position : goal.invariant-loop-position
invariant-loop-position l =
    let day = lent l.columns in
    (best_offers day l.demand l.setup l.giver l.receiver l.pair (range l.position (length l.giver)) l.best
    ≡ best_offers day l.demand l.setup l.giver l.receiver l.pair (range 0 (length l.giver)) (nothing (bound l.setup)))
    × (l.position ≤ length l.giver) × (length l.buffer ≡ length l.initial.buffer) × DrivenBy day l.setup l.giver l.head
