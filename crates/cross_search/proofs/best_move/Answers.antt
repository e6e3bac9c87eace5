-- `best_move`: before each first list, the scan from here on comes to the scan over all of them, and the table has the rows before.
use mathlib.Core.Path.{refl, sym, ap, ◌∙◌}
use mathlib.Core.Logic.{inl}
use native.Mathlib.Omega.{arith}
use Rattle.cross_choices.specs.Scan.{best_of}
use Rattle.descent.proofs.Loops.{scan_turn, scan_done}
use Rattle.cross_search.proofs.Pairs.{all_start}
use Rattle.cross_search.proofs.Joining.{from_sunk}
use Rattle.cross_search.proofs.Keeping.{table_at, noted_whole}
use Rattle.cross_search.proofs.best_move.Goals as goal

pub loop-a-init : goal.loop-a-init
loop-a-init c = (
  all_start _ _ _ _ _ _ _ _ ∙ ap (best_of _ _ _ _) c.no_choice-found.ensures,
  inl c.no_choice-found.ensures,
  table_at _ _ _ _ _ _ _ _ _ _ _ (omega arith) c.requires.kept,
  (refl, refl, refl),
)

pub loop-a-preserved : goal.loop-a-preserved
loop-a-preserved c =
    let row = c.best_from-found.ensures.same in
    let same = c.loop-a.invariant.3 in (
      scan_turn _ _ _ _ _ c.loop-a-test.true c.best_from-found.ensures.value ∙ c.loop-a.invariant.0,
      from_sunk _ _ _ _ _ _ _ _ c.loop-a.invariant.1 c.best_from-found.ensures.value,
      c.best_from-found.ensures.kept_2,
      (row.0 ∙ same.0, row.1 ∙ same.1, row.2 ∙ same.2),
    )

pub returns-clause-value : goal.returns-clause-value
returns-clause-value c =
    sym (scan_done _ _ _ _ c.loop-a-test.false) ∙ c.loop-a.invariant.0

pub returns-clause-kept_2 : goal.returns-clause-kept_2
returns-clause-kept_2 c =
    noted_whole _ _ _ _ _ _ _ _ _ _ c.loop-a-test.false c.loop-a.invariant.2

pub returns-clause-same : goal.returns-clause-same
returns-clause-same c =
    c.loop-a.invariant.3
