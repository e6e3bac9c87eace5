-- `broken_row`: before each candidate the costs of those before it are put down, and the head isn't beyond where its stretch begins.
use mathlib.Core.Path.{refl, ◌∙◌}
use native.Mathlib.Omega.{arith}
use lib.ListN.{length-set}
use Rattle.tests.specs.Pick.{yes, no}
use Rattle.broken_heads.proofs.Heads.{head_starts}
use Rattle.cross_rows.proofs.Rows.{from_later, cost_skipped, cost_asked}
use Rattle.cross_rows.proofs.Rows.{costing_starts, costing_turns, costing_turns_twice, costing_ends}
use mathlib.Core.Path.{ap}
use mathlib.Core.Bool.{not}
use Rattle.cross_rows.proofs.broken_row.Goals as goal

pub loop-j-init : goal.loop-j-init
loop-j-init c = (
  omega arith,
  omega arith,
  head_starts _ _ _ _ _ c.requires.driven.0.depot_there c.broken_start-head.ensures.0 c.broken_start-head.ensures.1 c.broken_start-head.ensures.2,
  costing_starts _ _ _ _ _ _ _ _ _ refl,
)

pub loop-j-preserved-then-not-asked : goal.loop-j-preserved-then-not-asked
loop-j-preserved-then-not-asked c = (
  omega (arith, c.loop-j-test.true),
  omega (arith, c.loop-j.invariant.1, from_later c.args.own c.loop-j.j),
  c.loop-j.invariant.2,
  costing_turns _ _ _ _ _ _ _ _ _ _ c.loop-j.invariant.3 (omega (arith, c.loop-j-test.true, c.requires.rowed.2)) _
      (c.infinite.ensures.answer ∙ cost_skipped _ _ _ _ _ c.infinite-in-loop-j.ensures.answer (no _ _ refl (ap not c.if-not-asked.true))),
)

pub start_at-from-requires : goal.start_at-from-requires
start_at-from-requires c =
    omega (arith, c.requires.driven.1.few, c.requires.rowed.0.ordered _ c.loop-j-test.true, c.requires.rowed.0.within _ c.loop-j-test.true)

pub end_at-requires : goal.end_at-requires
end_at-requires c =
    omega (arith, c.requires.driven.1.few, c.requires.rowed.0.within _ c.loop-j-test.true)

pub start_at-requires : goal.start_at-requires
start_at-requires c =
    omega (arith, c.requires.driven.1.few, c.requires.rowed.0.others_ordered _ c.loop-j-test.true, c.requires.rowed.0.others_within _ c.loop-j-test.true)

pub end_at-requires-in-loop-j : goal.end_at-requires-in-loop-j
end_at-requires-in-loop-j c =
    omega (arith, c.requires.driven.1.few, c.requires.rowed.0.others_within _ c.loop-j-test.true)

pub broken_candidate-priced-requires-clause-driven_le_from : goal.broken_candidate-priced-requires-clause-driven_le_from
broken_candidate-priced-requires-clause-driven_le_from c = (
  rw c.start_at-from.ensures c.loop-j.invariant.1,
  rw (c.start_at-from.ensures, c.end_at.ensures) (c.requires.rowed.0.ordered _ c.loop-j-test.true),
  rw c.end_at.ensures (c.requires.rowed.0.within _ c.loop-j-test.true),
  rw (c.start_at.ensures, c.end_at-in-loop-j.ensures) (c.requires.rowed.0.others_ordered _ c.loop-j-test.true),
  rw c.end_at-in-loop-j.ensures (c.requires.rowed.0.others_within _ c.loop-j-test.true),
)

pub bounds-costs-j-in-loop-j : goal.bounds-costs-j-in-loop-j
bounds-costs-j-in-loop-j c =
    simp length-set (omega (arith, c.loop-j-test.true, c.requires.rowed.2, c.loop-j.invariant.3.same_length))

pub loop-j-preserved : goal.loop-j-preserved
loop-j-preserved c = (
  omega (arith, c.loop-j-test.true),
  omega (arith, c.start_at-from.ensures, from_later c.args.own c.loop-j.j),
  c.broken_candidate-priced.ensures.head_of,
  costing_turns_twice _ _ _ _ _ _ _ _ _ _ c.loop-j.invariant.3 (omega (arith, c.loop-j-test.true, c.requires.rowed.2)) _
      (cost_asked _ _ _ _ _ _ _ _ _ c.infinite-in-loop-j.ensures.answer (yes _ _ refl (ap not c.if-not-asked.false)) c.start_at-from.ensures c.end_at.ensures
      c.start_at.ensures c.end_at-in-loop-j.ensures c.broken_candidate-priced.ensures.cost_value) _,
)

pub returns : goal.returns
returns c =
    costing_ends _ _ _ _ _ _ _ _ _ _ _ c.loop-j.invariant.3 c.loop-j-test.false
