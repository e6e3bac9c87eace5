-- `put`: three stores at the slot, which is below 256.
use Rattle.pairs.specs.Pairs.{put}
use Rattle.pairs.proofs.PairTable.put.Goals as goal

pub returns : goal.returns
unfolding put
returns c =
    rw (← c.narrow-position.ensures, ← c.narrow-place.ensures)
