-- `first_move`: the next move is the first from the place at hand on. The places ahead get fewer.
use mathlib.Core.Path.{refl, ◌∙◌}
use native.Mathlib.Omega.{arith}
use Rattle.three_opt.proofs.Places.{standing_inside, cuts_fewer}
use Rattle.three_opt.proofs.Sweeping.{sweep_start, sweep_over, sweep_passed, sweep_found}
use Rattle.three_opt.proofs.first_move.Goals as goal

pub loop-place-init : goal.loop-place-init
loop-place-init c =
    (sweep_start _ _ _ _ c.requires.four, refl)

pub best_pattern-found-requires-clause-visits : goal.best_pattern-found-requires-clause-visits
best_pattern-found-requires-clause-visits c =
    (c.requires.visits, omega (arith, c.loop-place.invariant.1, c.requires.room))

pub best_pattern-found-requires-clause-inside : goal.best_pattern-found-requires-clause-inside
best_pattern-found-requires-clause-inside c =
    standing_inside _ _ c.loop-place.invariant.0.standing c.loop-place-test.true

pub returns-in-Some : goal.returns-in-Some
returns-in-Some c =
    sweep_found _ c.args.setup _ _ _ c.loop-place.invariant.0 c.loop-place-test.true _ c.best_pattern-found.ensures _ c.in-Some.is (record {
      prepared = c.requires.prepared;
      visits = c.requires.visits;
      room = omega (arith, c.loop-place.invariant.1, c.best_pattern-found.auto.buffer, c.requires.room);
      four = c.requires.four;
    })

pub place_after-place-requires : goal.place_after-place-requires
place_after-place-requires c =
    (standing_inside _ _ c.loop-place.invariant.0.standing c.loop-place-test.true, omega (arith, c.requires.visits.few))

pub loop-place-smaller : goal.loop-place-smaller
loop-place-smaller c =
    rw c.place_after-place.ensures (cuts_fewer _ _ c.loop-place.invariant.0.standing c.loop-place-test.true)

pub loop-place-preserved : goal.loop-place-preserved
loop-place-preserved c = (
  rw c.place_after-place.ensures
      (sweep_passed _ c.args.setup _ c.loop-place.buffer _ c.loop-place.invariant.0 c.loop-place-test.true _ c.best_pattern-found.ensures c.in_default.is),
  c.best_pattern-found.auto.buffer ∙ c.loop-place.invariant.1,
)

pub returns : goal.returns
returns c =
    sweep_over _ c.args.setup _ _ _ c.loop-place.invariant.0 c.loop-place-test.false
