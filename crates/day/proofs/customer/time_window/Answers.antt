-- `time_window`: one return for each case of the two bits.
use mathlib.Core.Path.{refl, sym, ◌∙◌}
use Rattle.tests.specs.All.{no, yes}
use Rattle.tests.specs.Pick.{picked, other}
use Rattle.day.specs.Customer.{window_at}
use mathlib.Core.Path.{ap}
use mathlib.Core.Bool.{not}
use Rattle.day.proofs.customer.time_window.Goals as goal

pub returns-then-not-flag1 : goal.returns-then-not-flag1
unfolding window_at
returns-then-not-flag1 c =
    other _ _ _ _ (no _ _ c.flag1.ensures (ap not c.if-not-flag1.true)) refl

pub returns-then-flag2 : goal.returns-then-flag2
unfolding window_at
returns-then-flag2 c =
    picked _ _ _ _ (yes _ _ c.flag1.ensures
    (ap not c.if-not-flag1.false)) (picked _ _ _ _ (sym c.flag2.ensures ∙ c.if-flag2.true) refl)

pub returns : goal.returns
unfolding window_at
returns c =
    picked _ _ _ _ (yes _ _ c.flag1.ensures (ap not c.if-not-flag1.false)) (other _ _ _ _
    (sym c.flag2.ensures ∙ c.if-flag2.false) refl)
