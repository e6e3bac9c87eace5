-- A plan that a search is lent: for contracts. Assumes nothing.
use Rattle.cross_moves.specs.CrossDepot.{Plan, plan_of}
use Rattle.cross_moves.specs.declared.plan.Plan.{Plan as Tables}

-- the plan as it stands
abbrev pub lent_as : Tables → Plan
lent_as t = plan_of t.visits.now t.lengths.now t.ids.now t.costs.now
