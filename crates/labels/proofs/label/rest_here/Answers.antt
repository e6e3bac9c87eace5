-- `rest_here`: the definition, field by field.
use mathlib.Core.Path.{refl}
use Rattle.labels.specs.Label.{resting}
use Rattle.labels.proofs.label.rest_here.Goals as goal

pub returns : goal.returns
unfolding resting
returns c =
    refl
