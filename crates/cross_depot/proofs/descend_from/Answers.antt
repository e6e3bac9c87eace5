-- `descend_from`: after the start the tables hold the plan that is lent.
use mathlib.Core.Path.{sym, ap, ◌∙◌}
use Rattle.numbers.specs.Floor.{gain_floor}
use Rattle.cross_depot.proofs.descend_from.Goals as goal

pub start-requires-clause-prices_len : goal.start-requires-clause-prices_len
start-requires-clause-prices_len c =
    (c.requires.held.2 ∙ sym c.requires.held.1, c.requires.costs_len ∙ sym c.requires.held.1)

pub descend-requires-clause-floor : goal.descend-requires-clause-floor
descend-requires-clause-floor c =
    c.gain_floor.ensures.answer ∙ ap gain_floor c.scale.ensures

pub descend-requires-clause-held : goal.descend-requires-clause-held
descend-requires-clause-held c =
    let many-ids = c.start.auto.ids ∙ c.requires.held.1 in
    let many-costs = c.start.auto.costs ∙ c.requires.costs_len in
    (c.requires.held.0, many-ids, many-costs)

pub returns : goal.returns
returns c =
    rw (c.start.ensures.0, c.start.ensures.1) at c.descend.ensures
