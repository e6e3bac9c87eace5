-- `best_at`: the two lists are those of the tables, and the best of their exchanges is what the definition takes.
use Rattle.exchange_sweeps.proofs.Tables.{two_lists}
use Rattle.exchange_sweeps.proofs.Choosing.{best_at}
use Rattle.labels.specs.Lent.{lent}
use Rattle.exchange.specs.Rules.{rules_of}
use Rattle.exchange.proofs.Choosing.{best_of, best_taken}
use Rattle.exchange.proofs.HardTailSearch.best_at.Goals as goal

pub invariant_of-two : goal.invariant_of-two
invariant_of-two c = record {
  depot_there = c.args.self.now.asked.depot_there;
  visits = rw (c.list_of-one.ensures, c.list_of-other.ensures) (two_lists _ _ _ c.requires.held.0 _ _ c.requires.held.1);
}

pub best_exchange-requires-clause-loaded : goal.best_exchange-requires-clause-loaded
best_exchange-requires-clause-loaded c =
    c.args.self.now.asked.loaded

pub returns : goal.returns
returns c =
    let self = c.args.self.now in
    let floor = self.asked.floor in
    best_at (rules_of (lent self.columns.now) self.demand.now self.terms) (best_of (lent self.columns.now) self.demand.now self.terms floor)
    (best_taken (lent self.columns.now) self.demand.now self.terms floor) _ _ c.args.place _ _ _ _ c.list_of-one.ensures c.list_of-other.ensures
    c.best_exchange.ensures c.cut.ensures
