-- `change_behind`: behind its head each new list is the other list's tail, which is what is driven.
use mathlib.Core.Path.{◌∙◌}
use Rattle.loads.proofs.Visits.{two_turned}
use Rattle.tail_prices.proofs.Behind.{tail_visits, price_behind, same-change}
use Rattle.tail_prices.proofs.change_behind.Goals as goal

pub price_from-new1-requires : goal.price_from-new1-requires
price_from-new1-requires c =
    let two = c.args.two.now in
    (two.depot_there, c.requires.driven1.0.placed, tail_visits _ _ _ two.visits _ c.requires.within.other)

pub price_from-new2-requires : goal.price_from-new2-requires
price_from-new2-requires c =
    let two = c.args.two.now in
    (two.depot_there, c.requires.driven2.0.placed, tail_visits _ _ _ (two_turned _ _ _ two.visits) _ c.requires.within.one)

pub returns : goal.returns
returns c =
    let two = c.args.two.now in
    let within = c.requires.within in
    let new1 = c.price_from-new1.ensures
    ∙ price_behind _ _ _ two.one.now two.other.now c.args.cut1 c.args.cut2 c.args.driven1 c.requires.driven1.0 c.requires.driven1.1 (within.one, within.other) in
    let new2 = c.price_from-new2.ensures
    ∙ price_behind _ _ _ two.other.now two.one.now c.args.cut2 c.args.cut1 c.args.driven2 c.requires.driven2.0 c.requires.driven2.1 (within.other, within.one) in
    same-change two c.args.figures _ _ c.requires.priced _ _ _ new1 new2 c.change_by.ensures
