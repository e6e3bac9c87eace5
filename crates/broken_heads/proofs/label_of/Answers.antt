-- `label_of`: one arm for each case.
use mathlib.Core.Path.{sym}
use Rattle.broken_heads.specs.Head.{reached_as}
use Rattle.broken_heads.proofs.label_of.Goals as goal

pub returns-in-None : goal.returns-in-None
unfolding reached_as
returns-in-None c =
    sym c.in-None.is

pub returns-in-Some : goal.returns-in-Some
unfolding reached_as
returns-in-Some c =
    sym c.in-Some.is
