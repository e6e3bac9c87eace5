-- `improve`: as given, or by the search; proofs/Answering.antt has both.
use mathlib.Core.Path.{◌≡◌}
use mathlib.Core.Bool.{true, false, ◌||◌}
use native.Mathlib.Omega.{arith}
use borrow.Author.Rules.{rules}
use borrow.Author.Tests.{tests}
use lib.Dec.{ltb, eqb}
use lib.ListN.{length}
use Rattle.cross_steps.proofs.Parts.{length_part}
use Rattle.cross_depot.proofs.Answering.{some_van, improves_as_given, improves_by_search}
use Rattle.cross_depot.proofs.improve.Goals as goal

pub returns-then-n-lt2 : goal.returns-then-n-lt2
returns-then-n-lt2 c =
    let stays : (ltb (length c.args.lengths.now) 2 || eqb (length c.args.fleet.now.ids) 0) ≡ true = search (rules, tests) in
    rw c.ended_with.ensures (improves_as_given _ _ _ _ _ _ _ _ c.requires.held.0.laid c.requires.held.1 stays)

pub descend_from-requires-clause-manned : goal.descend_from-requires-clause-manned
descend_from-requires-clause-manned c =
    let goes : (ltb (length c.args.lengths.now) 2 || eqb (length c.args.fleet.now.ids) 0) ≡ false = search (rules, tests) in
    let some = some_van (ltb (length c.args.lengths.now) 2) _ goes in
    record { crewed = c.requires.crewed; some_van = some }

pub descend_from-requires-clause-costs_len : goal.descend_from-requires-clause-costs_len
descend_from-requires-clause-costs_len c =
    length_part _ _ (omega (arith, c.requires.held.0.laid.few))

pub returns : goal.returns
returns c =
    let goes : (ltb (length c.args.lengths.now) 2 || eqb (length c.args.fleet.now.ids) 0) ≡ false = search (rules, tests) in
    improves_by_search _ _ _ _ _ _ _ _ c.requires.held.0.laid c.requires.held.1 _ _ _ _ goes c.descend_from.ensures
