-- `best_neighbour`. The invariant: what is chosen from here on is what the whole scan chooses, and the head is driven. The measure: the neighbours left.
use mathlib.Core.Path.{◌≡◌}
use lib.ListN.{length}
use Rattle.numbers.specs.Operations.{◌⊖◌}
use Rattle.evaluation.specs.Route.{effective_cost}
use Rattle.heads.specs.Head.{Driven}
use Rattle.neighbours.specs.Neighbours.{made}
use Rattle.neighbours.specs.Places.{placed, rest}
use Rattle.soft_neighbours.proofs.Passes.{Scanning}
use Rattle.labels.specs.Lent.{lent}
use Rattle.soft_neighbours.proofs.best_neighbour.Given as goal

abbrev pub invariant-loop-here : goal.invariant-loop-here
invariant-loop-here g l =
    let day = lent l.columns in
    let price = effective_cost day l.limits l.depot in
    Scanning g.N.Neighbourhood.place (λ m. price (made l.list m)) (l.cost ⊖ l.floor) l.n l.initial.here l.best l.here
    × (length l.buffer ≡ length l.initial.buffer) × Driven day l.limits.rest l.depot l.list l.head

abbrev pub decreases-loop-here : goal.decreases-loop-here
decreases-loop-here g l =
    length (rest l.n (placed g.N.Neighbourhood.place l.here))
