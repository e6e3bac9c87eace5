-- `best_from`: before each second list, the scan from here on comes to the scan over all of them, and the table has the pairs before.
use mathlib.Core.Path.{refl, sym, ap, ◌∙◌}
use native.Mathlib.Omega.{arith}
use Rattle.descent.proofs.Loops.{scan_turn, scan_done}
use Rattle.cross_search.proofs.Pairs.{from_start}
use Rattle.cross_search.proofs.Joining.{after_sunk}
use Rattle.cross_search.proofs.Keeping.{table_at, noted_row, noted_turn}
use Rattle.cross_deltas.specs.declared.KeptDeltas.{KeptDeltas}
use Rattle.cross_search.proofs.best_from.Goals as goal

pub loop-b-init : goal.loop-b-init
loop-b-init c =
    (from_start _ _ _ _ _ _ _ _ _, c.requires.sunk, table_at _ _ _ _ _ _ _ _ _ _ _ (omega arith) c.requires.kept, (refl, refl, refl))

pub loop-b-preserved : goal.loop-b-preserved
loop-b-preserved c =
    let after = c.after_pair-found.ensures.deltas_after in
    let same = c.loop-b.invariant.3 in (
      scan_turn _ _ _ _ _ c.loop-b-test.true c.after_pair-found.ensures.value ∙ c.loop-b.invariant.0,
      after_sunk _ _ _ _ _ _ _ _ c.loop-b.invariant.1 _ c.after_pair-found.ensures.value,
      noted_turn _ _ _ _ _ _ _ _ c.loop-b.deltas c.requires.held.laid.few _ _ c.requires.a_in_bounds c.loop-b-test.true c.loop-b.invariant.2 _ after,
      (ap (λ (t : KeptDeltas). t.kept) after ∙ same.0, ap (λ (t : KeptDeltas). t.one) after ∙ same.1, ap (λ (t : KeptDeltas). t.other) after ∙ same.2),
    )

pub returns-clause-value : goal.returns-clause-value
returns-clause-value c =
    sym (scan_done _ _ _ _ c.loop-b-test.false) ∙ c.loop-b.invariant.0

pub returns-clause-kept_2 : goal.returns-clause-kept_2
returns-clause-kept_2 c =
    noted_row _ _ _ _ _ _ _ _ _ c.requires.held.laid.few _ _ c.loop-b-test.false c.loop-b.invariant.2

pub returns-clause-same : goal.returns-clause-same
returns-clause-same c =
    c.loop-b.invariant.3
