-- `best_exchange_of`: where a list has no price no exchange passes; else both have one.
use mathlib.Core.Path.{sym, ◌∙◌}
use Rattle.soft_tails.proofs.Unpriced.{first_unpriced, second_unpriced, prices_known}
use Rattle.soft_tails.proofs.best_exchange_of.Goals as goal

pub returns-then-not-is_finite : goal.returns-then-not-is_finite
returns-then-not-is_finite c =
    c.nothing.ensures ∙ first_unpriced c.args.two.now _ c.requires.figured.costs (sym c.is_finite.ensures.answer ∙ c.if-not-is_finite.true)

pub returns-then-not-is_finite-2 : goal.returns-then-not-is_finite-2
returns-then-not-is_finite-2 c =
    c.nothing-then-not-is_finite-2.ensures ∙ second_unpriced c.args.two.now _ c.requires.figured.costs (sym c.is_finite-2.ensures.answer ∙ c.if-not-is_finite-2.true)

pub of-pair-requires-clause-priced : goal.of-pair-requires-clause-priced
of-pair-requires-clause-priced c =
    prices_known c.args.two.now c.args.figures c.requires.figured.costs (sym c.is_finite.ensures.answer ∙ c.if-not-is_finite.false)
    (sym c.is_finite-2.ensures.answer ∙ c.if-not-is_finite-2.false)
