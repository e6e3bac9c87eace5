-- `giving_delta`: the operations are the definition's, and a list of one visit is emptied.
use Rattle.soft_places.proofs.Placing.{giving_is}
use Rattle.soft_places.proofs.giving_delta.Goals as goal

pub price_without-new-requires-clause-prepared : goal.price_without-new-requires-clause-prepared
price_without-new-requires-clause-prepared c =
    c.requires.prepared

pub price_without-new-requires-clause-in_bounds : goal.price_without-new-requires-clause-in_bounds
price_without-new-requires-clause-in_bounds c =
    c.requires.in_bounds

pub price_without-new-requires-clause-driven_by : goal.price_without-new-requires-clause-driven_by
price_without-new-requires-clause-driven_by c =
    c.requires.driven_by

pub returns : goal.returns
returns c =
    giving_is _ _ c.args.list.now c.args.position _ _ _ c.requires.in_bounds.2 c.price_without-new.ensures
    c.requires.value c.fixed_if-saved.ensures
