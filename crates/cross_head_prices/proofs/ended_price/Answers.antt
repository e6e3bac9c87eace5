-- `ended_price`: one arm for each case of the limits' test.
use mathlib.Core.Path.{refl, sym, ap, ◌∙◌}
use Rattle.std.specs.Prelude.{Some}
use Rattle.tests.specs.Pick.{picked, other}
use Rattle.cross_head_prices.specs.Prices.{ended_price}
use Rattle.cross_head_prices.proofs.ended_price.Goals as goal

pub returns-then-allow : goal.returns-then-allow
unfolding ended_price
returns-then-allow c =
    picked _ _ _ _ (sym c.allow.ensures ∙ c.if-allow.true) (ap Some c.route_cost.ensures)

pub returns : goal.returns
unfolding ended_price
returns c =
    other _ _ _ _ (sym c.allow.ensures ∙ c.if-allow.false) refl
