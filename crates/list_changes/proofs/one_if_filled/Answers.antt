-- `list_changes::one_if_filled` meets its contract, case by case. Assumes nothing.
use Rattle.list_changes.proofs.Packing.{one_of_zero, one_of_other}
use Rattle.list_changes.proofs.one_if_filled.Goals as goal

pub returns-then-n-eq0 : goal.returns-then-n-eq0
returns-then-n-eq0 c =
    one_of_zero _ c.if-n-eq0.true

pub returns : goal.returns
returns c =
    one_of_other _ c.if-n-eq0.false
