-- `too_late`: the definition, field by field.
use mathlib.Core.Path.{refl}
use Rattle.labels.specs.Label.{too_late}
use Rattle.labels.proofs.label.too_late.Goals as goal

pub returns : goal.returns
unfolding too_late
returns c =
    refl
