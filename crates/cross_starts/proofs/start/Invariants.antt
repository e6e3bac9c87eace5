-- `start`: the ids so far are those found, and the costs so far are those of the lists with them.
use Rattle.fleet.specs.Fleet.{fleet_vehicle}
use Rattle.cross_moves.specs.CrossDepot.{found_ids}
use Rattle.cross_starts.proofs.Starting.{Mapping, Costing}
use Rattle.cross_starts.proofs.start.Given as goal

abbrev pub invariant-loop-i : goal.invariant-loop-i
invariant-loop-i l =
    Mapping (λ id. (fleet_vehicle l.fleet id).id) l.initial.ids l.ids l.i × Costing l.fleet (found_ids l.fleet l.initial.ids) l.prices l.costs l.i
