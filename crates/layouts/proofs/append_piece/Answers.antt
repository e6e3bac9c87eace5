-- `append_piece`: one arm for each case.
use Rattle.layouts.proofs.append_piece.Goals as goal

pub returns-then-turned-clause-appended : goal.returns-then-turned-clause-appended
returns-then-turned-clause-appended c =
    rw c.if-turned.true c.append_stretch_reversed.ensures.appended

pub returns-clause-appended : goal.returns-clause-appended
returns-clause-appended c =
    rw c.if-turned.false c.append_stretch.ensures.appended
