-- `serve`: the stop is served on arrival.
use lib.Ieee.{binary64}
use lib.Ieee.Fits.{add-fits}
use Rattle.labels.specs.Label.{served}
use Rattle.labels.proofs.label.serve.Goals as goal

pub serve_at-requires : goal.serve_at-requires
serve_at-requires c =
    add-fits binary64 _ _

pub returns : goal.returns
unfolding served
returns c =
    c.serve_at.ensures
