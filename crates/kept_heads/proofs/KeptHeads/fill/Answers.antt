-- `fill`: before each visit the heads up to it are kept.
use native.Mathlib.Omega.{arith}
use mathlib.Core.Path.{◌≡◌, refl}
use lib.ListN.{length}
use Rattle.kept_heads.proofs.Keeping.{keeping_starts, keeping_turns, keeping_ends}
use Rattle.kept_heads.proofs.KeptHeads.fill.Goals as goal

pub loop-k-init : goal.loop-k-init
loop-k-init c =
    let long : length c.args.self.now.heads ≡ 64 = omega arith in
    keeping_starts _ _ _ c.args.self.now.heads _ _ c.requires.0 long c.at_depot-head.ensures c.kept_of.ensures

pub loop-k-preserved : goal.loop-k-preserved
loop-k-preserved c =
    keeping_turns _ _ _ _ _ _ c.loop-k.invariant _ c.loop-k-test.true c.drive-head.ensures _ c.requires.1.few c.if-head-k.false c.kept_of-in-loop-k.ensures

pub returns : goal.returns
returns c =
    keeping_ends _ _ _ _ _ _ c.loop-k.invariant _ refl c.loop-k-test.false
