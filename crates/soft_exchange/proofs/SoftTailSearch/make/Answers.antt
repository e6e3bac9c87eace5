-- `make`: the figures are worked out again for the two lists that the exchange changes.
use native.Mathlib.Omega.{arith}
use Rattle.lists.proofs.Tables.{length-lists}
use Rattle.loads.proofs.Tables.{still_held}
use Rattle.list_figures.proofs.Keeping.{kept_moved}
use Rattle.soft_exchange.proofs.SoftTailSearch.make.Goals as goal

pub renew_two-requires-clause-held : goal.renew_two-requires-clause-held
renew_two-requires-clause-held c =
    let cuts = c.requires.makeable in
    let number = c.exchange_tails.ensures.number in
    (still_held _ _ _ _ _ _ c.exchange_tails.ensures c.requires.held, omega (arith, cuts.before, cuts.there, number), omega (arith, cuts.there, number))

pub returns-clause-kept : goal.returns-clause-kept
returns-clause-kept c =
    let kept = rw (length-lists c.args.visits.now c.args.lengths.now) at c.requires.kept in
    rw (length-lists c.exchange_tails.new.visits c.exchange_tails.new.lengths)
    (kept_moved _ _ c.args.self.now.terms _ _ _ _ _ _ _ _ _ _ kept c.requires.makeable c.exchange_tails.ensures c.renew_two.ensures)
