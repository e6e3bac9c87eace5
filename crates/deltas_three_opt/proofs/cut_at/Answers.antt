-- `cut_at`: the stops, the ends of both pieces, and what turning changes inside each.
use Rattle.deltas.specs.Deltas.{cut_at}
use Rattle.deltas_three_opt.proofs.cut_at.Goals as goal

pub returns : goal.returns
unfolding cut_at
returns c =
    rw (
      c.reversal_delta-c_inside.ensures,
      c.reversal_delta-b_inside.ensures,
      c.ends_of-c.ensures,
      c.ends_of-b.ensures,
      c.around-stops.ensures,
    )
