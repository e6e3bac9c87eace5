-- `row_mirrored`: the entries passed equal their mirrors.
use borrow.Author.Rules.{rules}
use mathlib.Core.Path.{sym}
use lib.Ieee.{ne}
use Rattle.tests.specs.All.{all_none, all_more, all_fails, all_end}
use Rattle.day.specs.Matrix.{mirrored}
use borrow.Author.Tests.{not-true, not-false}
use Rattle.day_scans.proofs.matrix.row_mirrored.Goals as goal

pub loop-to-init : goal.loop-to-init
loop-to-init c =
    (search rules, all_none _)

pub returns-then-get : goal.returns-then-get
unfolding mirrored ne
returns-then-get c =
    sym (all_fails _ _ c.loop-to.to (search rules) (rw
    (← c.get.ensures, ← c.get-in-loop-to.ensures) (not-true _ c.if-get.true)))

pub loop-to-preserved : goal.loop-to-preserved
unfolding ne
loop-to-preserved c = (
  search rules,
  all_more _ _ c.loop-to.invariant.1 (rw (← c.get.ensures, ← c.get-in-loop-to.ensures)
      (not-false _ c.if-get.false)),
)

pub returns : goal.returns
unfolding mirrored ne
returns c =
    all_end _ _ _ c.loop-to.invariant.0 c.loop-to-test.false c.loop-to.invariant.1
