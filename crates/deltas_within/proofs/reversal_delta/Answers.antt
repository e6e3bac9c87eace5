-- `reversal_delta`: under the mark the legs of the piece change by nothing, which is the sum that the loop would make.
use Rattle.deltas.proofs.Shortcut.{marked_nothing}
use lib.Ieee.{of_bits}
use mathlib.Core.Path.{sym}
use Prim.Native.Nat.{◌+◌}
use Rattle.deltas_within.proofs.reversal_delta.Goals as goal

pub returns-then-symmetric : goal.returns-then-symmetric
unfolding of_bits
returns-then-symmetric c =
    sym (marked_nothing c.args.matrix.now.size c.args.matrix.now.entries.now c.args.symmetric c.args.matrix.now.square c.requires.listed.0 c.if-symmetric.true c.args.list.now c.requires.listed.1 c.args.first (c.args.last + 1))

pub returns : goal.returns
returns c =
    c.turned_legs.ensures
