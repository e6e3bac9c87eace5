-- `candidate_passes`: the buffer holds the list, and then the list with the piece moved, which has the same visits; that is walked.
use mathlib.Core.Path.{sym, ap, ◌∙◌}
use Rattle.edits.proofs.Chain.{appended_whole}
use Rattle.evaluation.specs.Route.{feasible}
use Rattle.descent.specs.Within.{Piece}
use Rattle.segments.proofs.Moved.{made_is, visits_moved}
use Rattle.segments.proofs.candidate_passes.Goals as goal

pub move_piece-requires-clause-size_in_bounds : goal.move_piece-requires-clause-size_in_bounds
move_piece-requires-clause-size_in_bounds c =
    let whole = appended_whole c.append.ensures (sym c.requires.candidate_len) in
    rw whole c.requires.fits.inside

pub move_piece-requires-clause-to_in_bounds : goal.move_piece-requires-clause-to_in_bounds
move_piece-requires-clause-to_in_bounds c =
    let whole = appended_whole c.append.ensures (sym c.requires.candidate_len) in
    rw whole c.requires.fits.there

pub move_piece-requires-clause-fact : goal.move_piece-requires-clause-fact
move_piece-requires-clause-fact c =
    c.requires.fits.apart

pub route_feasible-requires : goal.route_feasible-requires
route_feasible-requires c =
    let p : Piece = record { size = c.args.size; from = c.args.from; to = c.args.to } in
    let whole = appended_whole c.append.ensures (sym c.requires.candidate_len) in
    let made = made_is _ _ _ p whole c.move_piece.ensures in
    (c.requires.asked.depot_there, rw made (visits_moved _ _ p c.requires.asked.visits c.requires.fits))

pub returns : goal.returns
returns c =
    let p : Piece = record { size = c.args.size; from = c.args.from; to = c.args.to } in
    let whole = appended_whole c.append.ensures (sym c.requires.candidate_len) in
    c.route_feasible.ensures ∙ ap (feasible _ _ _) (made_is _ _ _ p whole c.move_piece.ensures)
