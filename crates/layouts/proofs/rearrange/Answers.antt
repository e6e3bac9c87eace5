-- `rearrange`: the list is overwritten as a whole by the list that was built, which is as long.
use Rattle.layouts.proofs.Layouts.{overwritten}
use Rattle.layouts.proofs.rearrange.Goals as goal

pub returns : goal.returns
returns c =
    overwritten _ _ _ c.requires.0 c.lay_out.ensures c.append.ensures
