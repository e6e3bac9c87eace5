-- `unbroken_row`: before each candidate the costs of those before it are put down.
use mathlib.Core.Path.{refl, ◌∙◌}
use native.Mathlib.Omega.{arith}
use Rattle.cross_rows.proofs.Rows.{cost_skipped, cost_asked, costing_starts, costing_turns, costing_ends}
use Rattle.cross_rows.proofs.unbroken_row.Goals as goal
use Rattle.cross_rows.proofs.unbroken_row.Goals.{then-skip-j, else-skip-j}

pub loop-j-init : goal.loop-j-init
loop-j-init c =
    (omega arith, costing_starts _ _ _ _ _ _ _ _ _ refl)

pub start_at-requires : goal.start_at-requires
start_at-requires c =
    omega (arith, c.requires.driven.1.few, c.requires.rowed.0.ordered _ c.loop-j-test.true, c.requires.rowed.0.within _ c.loop-j-test.true)

pub end_at-requires : goal.end_at-requires
end_at-requires c =
    omega (arith, c.requires.driven.1.few, c.requires.rowed.0.within _ c.loop-j-test.true)

pub start_at-requires-then-skip-j : goal.start_at-requires-then-skip-j
start_at-requires-then-skip-j c =
    omega (arith, c.requires.driven.1.few, c.requires.rowed.0.others_ordered _ c.loop-j-test.true, c.requires.rowed.0.others_within _ c.loop-j-test.true)

pub end_at-requires-then-skip-j : goal.end_at-requires-then-skip-j
end_at-requires-then-skip-j c =
    omega (arith, c.requires.driven.1.few, c.requires.rowed.0.others_within _ c.loop-j-test.true)

pub candidate_cost-cost-requires-clause-from_le_to : goal.candidate_cost-cost-requires-clause-from_le_to
candidate_cost-cost-requires-clause-from_le_to c = (
  rw (c.start_at.ensures, c.end_at.ensures) (c.requires.rowed.0.ordered _ c.loop-j-test.true),
  rw c.end_at.ensures (c.requires.rowed.0.within _ c.loop-j-test.true),
  rw (c.start_at-then-skip-j.ensures, c.end_at-then-skip-j.ensures) (c.requires.rowed.0.others_ordered _ c.loop-j-test.true),
  rw c.end_at-then-skip-j.ensures (c.requires.rowed.0.others_within _ c.loop-j-test.true),
)

pub loop-j-preserved : goal.loop-j-preserved
loop-j-preserved c = (
  omega (arith, c.loop-j-test.true),
  costing_turns _ _ _ _ _ _ _ _ _ _ c.loop-j.invariant.1 (omega (arith, c.loop-j-test.true, c.requires.rowed.2)) c.if-skip-j.cost
      (elim c.if-skip-j.branch [
        | then-skip-j w ↦
            w.cost-is ∙ cost_asked _ _ _ _ _ _ _ _ _ c.infinite.ensures.answer w.if-skip-j.true w.start_at.ensures w.end_at.ensures
            w.start_at-then-skip-j.ensures w.end_at-then-skip-j.ensures w.candidate_cost-cost.ensures
        | else-skip-j w ↦ w.cost-is ∙ c.infinite-cost.ensures.answer ∙ cost_skipped _ _ _ _ _ c.infinite.ensures.answer w.if-skip-j.false
      ]),
)

pub returns : goal.returns
returns c =
    costing_ends _ _ _ _ _ _ _ _ _ _ _ c.loop-j.invariant.1 c.loop-j-test.false
