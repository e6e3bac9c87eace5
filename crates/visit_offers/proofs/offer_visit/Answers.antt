-- `offer_visit`: what is known is read, and noted.
use Rattle.visit_offers.specs.Tried.{tried}
use Rattle.visit_offers.proofs.Tried.{noted_as}
use Rattle.visit_offers.proofs.offer_visit.Goals as goal

pub returns : goal.returns
returns c =
    noted_as (tried _ _ c.args.setup _ _ _ _ _ _ _) _ _ _ _ _ _ _ c.from-visit.ensures c.known-known.ensures c.try_visit-tried.ensures c.note.ensures
