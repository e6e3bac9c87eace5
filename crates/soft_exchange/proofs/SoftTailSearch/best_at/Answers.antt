-- `best_at`: the two lists are those of the tables, their figures are kept, and the best of their exchanges is what the definition takes.
use native.Mathlib.Omega.{arith}
use Rattle.lists.proofs.Tables.{length-lists}
use Rattle.list_figures.proofs.Keeping.{kept_figured}
use Rattle.exchange_sweeps.proofs.Tables.{two_lists}
use Rattle.exchange_sweeps.proofs.Choosing.{best_at}
use Rattle.labels.specs.Lent.{lent}
use Rattle.soft_exchange.specs.Rules.{rules_of}
use Rattle.soft_exchange.proofs.Choosing.{best_of, best_taken}
use Rattle.soft_exchange.proofs.SoftTailSearch.best_at.Goals as goal

pub invariant_of-two : goal.invariant_of-two
invariant_of-two c = record {
  depot_there = c.args.self.now.asked.depot_there;
  visits = rw (c.list_of-one.ensures, c.list_of-other.ensures) (two_lists _ _ _ c.requires.held.0 _ _ c.requires.held.1);
}

pub best_exchange_of-requires-clause-figured : goal.best_exchange_of-requires-clause-figured
best_exchange_of-requires-clause-figured c =
    kept_figured _ _ _ _ _ _ _ _ c.list_of-one.ensures c.list_of-other.ensures (rw (length-lists c.args.visits.now c.args.lengths.now) at c.requires.kept)
    (omega (arith, c.requires.held.1, c.requires.held.2)) c.requires.held.2 c.of_two-figures.ensures

pub best_exchange_of-requires-clause-loaded : goal.best_exchange_of-requires-clause-loaded
best_exchange_of-requires-clause-loaded c =
    c.args.self.now.asked.loaded

pub returns : goal.returns
returns c =
    let self = c.args.self.now in
    best_at (rules_of (lent self.columns.now) self.demand.now self.terms) (best_of (lent self.columns.now) self.demand.now self.terms)
    (best_taken (lent self.columns.now) self.demand.now self.terms) _ _ c.args.place _ _ _ _ c.list_of-one.ensures c.list_of-other.ensures
    c.best_exchange_of.ensures c.cut.ensures
