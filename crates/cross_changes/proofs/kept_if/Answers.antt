-- `kept_if`: one return for each case.
use Rattle.cross_changes.proofs.Dropping.{kept_none, kept_one}
use Rattle.cross_changes.proofs.kept_if.Goals as goal

pub returns-then-n-eq0 : goal.returns-then-n-eq0
returns-then-n-eq0 g c =
    kept_none _ _ _ c.if-n-eq0.true

pub returns : goal.returns
returns g c =
    kept_one _ _ _ c.if-n-eq0.false
