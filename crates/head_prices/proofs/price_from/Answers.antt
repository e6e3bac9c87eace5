-- `price_from`: one arm for each case of the break.
use mathlib.Core.Path.{◌∙◌}
use Rattle.head_prices.specs.Prices.{cost_from}
use Rattle.head_prices.proofs.Prices.{price_unbroken, price_broken}
use Rattle.head_prices.proofs.price_from.Goals as goal

pub returns-in-None : goal.returns-in-None
unfolding cost_from
returns-in-None c =
    c.price.ensures ∙ rw c.home-driven.ensures (price_unbroken _ _ _ c.args.head _ _ c.in-None.is)

pub returns-in-Some : goal.returns-in-Some
returns-in-Some c =
    c.effective_cost.ensures ∙ price_broken _ _ _ _ _ _ _ c.in-Some.is
