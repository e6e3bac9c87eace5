-- `drive`: what is driven so far is the walk over the visits from `from` on. A visit that can't be served ends it before that visit.
use native.Mathlib.Omega.{arith}
use Prim.Native.Nat.{◌<◌}
use mathlib.Core.Path.{◌≡◌}
use lib.ListN.{length}
use lib.Seq.{slice_empty}
use Rattle.evaluation.specs.Route.{tick_is}
use Rattle.heads.proofs.Heads.{drive_turn}
use Rattle.heads.proofs.drive.Goals as goal

pub loop-i-init : goal.loop-i-init
loop-i-init c =
    (omega arith, c.requires.2, c.requires.0, rw (slice_empty c.args.from c.args.list.now))

pub returns-in_default : goal.returns-in_default
returns-in_default c =
    record {
      behind = c.loop-i.invariant.0;
      within = c.loop-i.invariant.1;
      placed = c.loop-i.invariant.2;
      same = c.loop-i.invariant.3;
      lost = λ h. tick_is _ _ _ _ _ _ _ _ (rw c.from-visit.ensures at c.travel_time-travel.ensures) (rw c.from-visit.ensures at c.stop-stop.ensures) c.serve-reached.ensures c.in_default.is;
    }

pub loop-i-preserved : goal.loop-i-preserved
loop-i-preserved c =
    let here : c.loop-i.i < length c.args.list.now = omega (arith, c.loop-i-test.true, c.requires.3) in (
      omega (arith, c.loop-i.invariant.0),
      omega (arith, c.loop-i-test.true),
      rw c.from-visit.ensures (c.requires.1.below c.loop-i.i here),
      rw c.from-visit.ensures (drive_turn _ _ _ _ _ _ _ _ _ _ c.loop-i.invariant.0 here c.loop-i.invariant.3 (rw c.from-visit.ensures at c.distance-leg.ensures)
          (tick_is _ _ _ _ _ _ _ _ (rw c.from-visit.ensures at c.travel_time-travel.ensures) (rw c.from-visit.ensures at c.stop-stop.ensures) c.serve-reached.ensures c.in-Some.is)),
    )

pub returns : goal.returns
returns c =
    let all : c.loop-i.i ≡ c.args.to = omega (arith, c.loop-i.invariant.1, c.loop-i-test.false) in
    record {
      behind = c.requires.2;
      within = omega arith;
      placed = c.loop-i.invariant.2;
      same = rw (← all) c.loop-i.invariant.3;
      lost = λ h. absurd (omega (arith, h));
    }
