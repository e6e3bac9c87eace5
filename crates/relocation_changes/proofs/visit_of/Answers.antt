-- `visit_of`: the list is lent, and its visit read.
use mathlib.Core.Path.{ap, ◌∙◌}
use native.Mathlib.Omega.{arith}
use lib.ListN.{length}
use Rattle.lists.proofs.Tables.{length_list}
use Rattle.relocation_changes.proofs.visit_of.Goals as goal

pub bounds-list-position : goal.bounds-list-position
bounds-list-position c =
    let long = ap length c.list_of-list.ensures ∙ length_list _ _ c.requires.0.add_up c.args.r in
    omega
    (arith, c.requires.2, long)
