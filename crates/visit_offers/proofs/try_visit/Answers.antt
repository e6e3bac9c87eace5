-- `try_visit`: each end is the definition's case.
use Rattle.visit_offers.proofs.Tried.{tried_full, tried_ruled, tried_places}
use Rattle.visit_offers.proofs.try_visit.Goals as goal

pub returns-then-load-boxes_of : goal.returns-then-load-boxes_of
returns-then-load-boxes_of c =
    tried_full _ _ c.args.setup _ _ _ _ _ _ _ _ _ _ c.from.ensures c.boxes_of.ensures.0 c.if-load-boxes_of.true

pub returns-then-is_ruled_out : goal.returns-then-is_ruled_out
returns-then-is_ruled_out c =
    tried_ruled _ _ c.args.setup _ _ _ _ _ _ _ _ _ _ c.from.ensures c.boxes_of.ensures.0 c.if-load-boxes_of.false _ _
    (rw (← c.matrix.ensures.size, ← c.matrix.ensures.entries) c.removal_delta-removal.ensures) c.is_ruled_out.ensures c.if-is_ruled_out.true

pub returns : goal.returns
returns c =
    tried_places _ _ c.args.setup _ _ _ _ _ _ _ _ _ _ c.from.ensures c.boxes_of.ensures.0 c.if-load-boxes_of.false _ _
    (rw (← c.matrix.ensures.size, ← c.matrix.ensures.entries) c.removal_delta-removal.ensures) c.is_ruled_out.ensures c.if-is_ruled_out.false _ c.best_place.ensures.best_value
    c.best_place.ensures.least_value
