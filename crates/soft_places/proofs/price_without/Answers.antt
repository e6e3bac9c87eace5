-- `price_without`: behind a head that ends there, the list without the visit is its own tail; else it is laid in the buffer.
use mathlib.Core.Path.{ap, ◌∙◌}
use Rattle.evaluation.specs.Route.{effective_cost}
use Rattle.edits.proofs.Cuts.{front}
use Rattle.loads.proofs.Visits.{visits_without}
use Rattle.soft_places.proofs.Laid.{tail_visits, price_without_is}
use Rattle.soft_places.proofs.price_without.Goals as goal

pub price_from-requires : goal.price_from-requires
price_from-requires c =
    (c.requires.prepared.depot_there, c.requires.driven_by.placed, tail_visits _ _ _ c.requires.in_bounds.1 c.requires.in_bounds.2)

pub returns-then-head-position : goal.returns-then-head-position
returns-then-head-position c =
    c.price_from.ensures ∙ price_without_is _ _ _ c.args.list.now c.args.head c.requires.driven_by c.args.position
    c.requires.in_bounds.2 c.if-head-position.true

pub price_of-requires-clause-prepared : goal.price_of-requires-clause-prepared
price_of-requires-clause-prepared c =
    c.requires.prepared

pub price_of-requires-clause-visits : goal.price_of-requires-clause-visits
price_of-requires-clause-visits c =
    rw (front c.removed_into-end.result c.removed_into-end.new.buffer _ c.removed_into-end.ensures.buffer_after)
    (visits_without _ c.args.list.now c.args.position c.requires.in_bounds.1 c.requires.in_bounds.2)

pub returns : goal.returns
returns c =
    c.price_of.ensures ∙ ap (effective_cost _ _ _) (front c.removed_into-end.result c.removed_into-end.new.buffer _ c.removed_into-end.ensures.buffer_after)
