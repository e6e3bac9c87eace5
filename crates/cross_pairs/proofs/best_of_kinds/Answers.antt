-- `best_of_kinds`: before each kind, the scan from here on comes to all moves between the two lists.
use mathlib.Core.Path.{sym, ◌∙◌}
use native.Mathlib.Omega.{arith}
use Rattle.descent.proofs.Loops.{scan_turn, scan_done}
use Rattle.cross_pairs.specs.Kinds.{kinds_of}
use Rattle.cross_pairs.proofs.Between.{kinds_are, kinds_few, kinds_listed}
use Rattle.cross_pairs.proofs.best_of_kinds.Goals as goal

pub loop-n-init : goal.loop-n-init
loop-n-init c =
    kinds_are _ _ c.args.pair.now _ _ c.args.best

pub bounds-n-n : goal.bounds-n-n
bounds-n-n c =
    omega (arith, c.kinds_of-n-end.ensures, kinds_few c.args.pair.now.one c.args.pair.now.other, c.loop-n-test.true)

pub loop-n-preserved : goal.loop-n-preserved
loop-n-preserved c =
    let listed = kinds_listed c.loop-n.n (omega (arith, c.kinds_of-n-end.ensures, kinds_few c.args.pair.now.one c.args.pair.now.other, c.loop-n-test.true)) in
    scan_turn _ _ _ _ _ (rw (← c.kinds_of-n-end.ensures) c.loop-n-test.true) (rw listed at c.best_of_kind-found.ensures) ∙ c.loop-n.invariant

pub returns : goal.returns
returns c =
    let all = kinds_of c.args.pair.now.one c.args.pair.now.other in
    sym (scan_done _ _ all _ (omega (arith, c.kinds_of-n-end.ensures, c.loop-n-test.false))) ∙ c.loop-n.invariant
