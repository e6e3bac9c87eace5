-- `best_pattern`: where none is below minus the floor, none is taken; else the scan over the seven ways takes it.
use mathlib.Core.Path.{refl, sym, ◌∙◌}
use native.Mathlib.Omega.{arith}
use Rattle.engine.proofs.Choosing.{onto_starts, turn_one, end_one}
use Rattle.patterns.proofs.Choosing.{known_start, all_chosen}
use Rattle.patterns.proofs.Judging.{listed, cut_placed}
use Rattle.patterns.proofs.Gate.{none_below}
use Rattle.patterns.proofs.best_pattern.Goals as goal

pub cut_at-cut-requires-clause-listed : goal.cut_at-cut-requires-clause-listed
cut_at-cut-requires-clause-listed c =
    rw (c.matrix-matrix.ensures.size, c.matrix-matrix.ensures.entries) (c.requires.prepared.marked, listed c.requires.prepared c.requires.visits.0)

pub any_below-requires : goal.any_below-requires
any_below-requires c =
    cut_placed _ _ _ _ _ _ _ _ c.cut_at-cut.ensures (rw c.matrix-matrix.ensures.size (listed c.requires.prepared c.requires.visits.0))

pub returns-then-not-any_below : goal.returns-then-not-any_below
returns-then-not-any_below c =
    none_below c.args.setup _ _ _ c.cut_at-cut.result c.requires.prepared (rw (← c.matrix-matrix.ensures.size, ← c.matrix-matrix.ensures.entries) c.cut_at-cut.ensures) (rw (← c.matrix-matrix.ensures.size, ← c.matrix-matrix.ensures.entries) (sym c.any_below.ensures ∙ c.if-not-any_below.true))

pub loop-number-init : goal.loop-number-init
loop-number-init c =
    (rw c.below-best.ensures (onto_starts _ _ _ _ _ _ (known_start _ c.args.setup _ _ c.requires.prepared)), refl)

pub better_of-best-requires-clause-visits : goal.better_of-best-requires-clause-visits
better_of-best-requires-clause-visits c =
    (c.requires.visits.0, omega (arith, c.loop-number.invariant.1, c.requires.visits.1))

pub better_of-best-requires-clause-known : goal.better_of-best-requires-clause-known
better_of-best-requires-clause-known c =
    c.loop-number.invariant.0.known

pub loop-number-preserved : goal.loop-number-preserved
loop-number-preserved c = (
  turn_one _ _ _ _ _ _ _ _ _ _ _ c.loop-number-test.true c.loop-number.invariant.0 c.better_of-best.ensures,
  c.better_of-best.auto.buffer ∙ c.loop-number.invariant.1,
)

pub returns : goal.returns
returns c =
    all_chosen _ c.args.setup _ _ _ _ c.below-best.ensures (end_one _ _ _ _ _ _ _ _ _ _ c.loop-number-test.false c.loop-number.invariant.0)
