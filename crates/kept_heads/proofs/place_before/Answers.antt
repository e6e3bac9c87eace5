-- `place_before`: one arm for each case of the test.
use mathlib.Core.Path.{◌∙◌}
use Rattle.kept_heads.proofs.Keeping.{place-behind}
use Rattle.kept_heads.proofs.place_before.Goals as goal

pub returns : goal.returns
returns c =
    c.from.ensures ∙ place-behind _ c.args.list.now c.args.k c.if-k-eq0.false
