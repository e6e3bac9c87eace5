-- `visit_at`: one arm for each part of the list.
use mathlib.Core.Path.{◌∙◌}
use Rattle.cross_broken_drives.proofs.Drives.{visit_before, visit_within, visit_behind}
use Rattle.cross_broken_drives.proofs.visit_at.Goals as goal

pub returns-then-i-from : goal.returns-then-i-from
returns-then-i-from c =
    c.from.ensures ∙ visit_before _ _ _ _ _ _ c.requires.from_le_to.0 c.requires.from_le_to.1 c.requires.from_le_to.2 c.requires.from_le_to.3 _ c.if-i-from.true

pub returns-then-k-size : goal.returns-then-k-size
returns-then-k-size c =
    c.from-then-k-size.ensures ∙ visit_within _ _ _ _ _ _ c.requires.from_le_to.0 c.requires.from_le_to.1 c.requires.from_le_to.2 c.requires.from_le_to.3 _ c.if-i-from.false c.if-k-size.true

pub returns : goal.returns
returns c =
    c.from-2.ensures ∙ visit_behind _ _ _ _ _ _ c.requires.from_le_to.0 c.requires.from_le_to.1 c.requires.from_le_to.2 c.requires.from_le_to.3 _ c.if-i-from.false c.if-k-size.false
