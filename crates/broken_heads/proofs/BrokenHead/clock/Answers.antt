-- `clock`: field by field.
use Rattle.broken_heads.specs.Head.{clock_of}
use Rattle.broken_heads.proofs.BrokenHead.clock.Goals as goal

pub returns : goal.returns
unfolding clock_of
returns c =
    rw (← c.reached_as.ensures, ← c.reached_as-2.ensures)
