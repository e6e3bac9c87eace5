-- `next_move`: the first search covers the places ahead; where it finds nothing the list is as it was, and the second covers all places.
use Rattle.reversals.proofs.Places.{start_in}
use Rattle.reversals.proofs.Turns.{left_as_it_was, found_ahead, found_anew}
use Rattle.reversals.proofs.next_move.Goals as goal

pub first_move-found-requires-clause-worked : goal.first_move-found-requires-clause-worked
first_move-found-requires-clause-worked c =
    c.requires.worked

pub first_move-found-requires-clause-in_sweep : goal.first_move-found-requires-clause-in_sweep
first_move-found-requires-clause-in_sweep c =
    search (c.requires.in_sweep, start_in)

pub returns-in-Some : goal.returns-in-Some
returns-in-Some c =
    found_ahead _ _ _ _ _ _ _ c.in-Some.is c.first_move-found.ensures

pub first_move-requires-clause-worked : goal.first_move-requires-clause-worked
first_move-requires-clause-worked c =
    rw (left_as_it_was c.first_move-found.ensures c.in_default.is) c.requires.worked

pub first_move-requires-clause-in_sweep : goal.first_move-requires-clause-in_sweep
first_move-requires-clause-in_sweep c =
    start_in _

pub returns : goal.returns
returns c =
    found_anew _ _ _ _ _ _ _ _ c.in_default.is c.first_move-found.ensures c.first_move.ensures
