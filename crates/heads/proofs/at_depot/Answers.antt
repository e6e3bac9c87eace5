-- `at_depot`: field by field.
use lib.Ieee.{of_bits}
use Rattle.heads.specs.Head.{at_depot}
use Rattle.heads.proofs.at_depot.Goals as goal

pub returns : goal.returns
unfolding at_depot of_bits
returns c =
    rw c.at_start.ensures
