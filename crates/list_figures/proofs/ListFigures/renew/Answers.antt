-- `ListFigures::renew`: each figure is its callee's answer for the list, whose visits are locations.
use mathlib.Core.Path.{refl}
use Rattle.lists.proofs.Tables.{at_lists}
use Rattle.loads.proofs.Tables.{lent_visits}
use Rattle.list_figures.proofs.ListFigures.renew.Goals as goal

pub effective_cost-cost-requires : goal.effective_cost-cost-requires
effective_cost-cost-requires c =
    (c.requires.asked.depot_there, lent_visits _ _ _ c.requires.held.0 _ _ c.list_of-list.ensures)

pub load_of-load-requires : goal.load_of-load-requires
load_of-load-requires c =
    (c.requires.asked.loaded, lent_visits _ _ _ c.requires.held.0 _ _ c.list_of-list.ensures)

pub returns : goal.returns
returns c =
    rw (c.effective_cost-cost.ensures, c.load_of-load.ensures.0, c.list_of-list.ensures, ← at_lists c.args.visits.now c.args.lengths.now c.args.r) refl
