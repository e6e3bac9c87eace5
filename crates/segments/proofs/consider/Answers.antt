-- `consider`: each of its three ends is one of a scan's turn with one candidate more.
use Rattle.segments.proofs.Choosing.{delta_is, not_below, not-passing, taken_up}
use Rattle.segments.proofs.consider.Goals as goal

pub piece_insertion-cost-requires-clause-listed : goal.piece_insertion-cost-requires-clause-listed
piece_insertion-cost-requires-clause-listed c =
    rw c.matrix.ensures.size (record { depot_there = c.requires.asked.depot_there; visits = c.requires.asked.visits.below })

pub returns-then-not-delta-best : goal.returns-then-not-delta-best
returns-then-not-delta-best c =
    let delta = delta_is _ _ _ c.requires.asked _ _ _ (rw (c.matrix.ensures.size, c.matrix.ensures.entries) at c.piece_insertion-cost.ensures) c.requires.gain_value in
    not_below _ _ _ c.requires.asked _ (record { size = c.args.piece.size; from = c.args.piece.from; to = c.args.to }) _ c.requires.known delta
    c.if-not-delta-best.true

pub returns-then-not-moved_passes : goal.returns-then-not-moved_passes
returns-then-not-moved_passes c =
    let delta = delta_is _ _ _ c.requires.asked _ _ _ (rw (c.matrix.ensures.size, c.matrix.ensures.entries) at c.piece_insertion-cost.ensures) c.requires.gain_value in
    not-passing _ _ _ c.requires.asked _ (record { size = c.args.piece.size; from = c.args.piece.from; to = c.args.to }) _ c.requires.known delta _
    c.moved_passes.ensures c.if-not-moved_passes.true

pub returns : goal.returns
returns c =
    let delta = delta_is _ _ _ c.requires.asked _ _ _ (rw (c.matrix.ensures.size, c.matrix.ensures.entries) at c.piece_insertion-cost.ensures) c.requires.gain_value in
    taken_up _ _ _ c.requires.asked _ _ _ c.requires.known delta _ c.moved_passes.ensures c.if-not-delta-best.false c.if-not-moved_passes.false
