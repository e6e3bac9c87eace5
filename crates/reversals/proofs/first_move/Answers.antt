-- `first_move`: the first move from the place at hand on is the first from the start on, the list is as it was, and the head reaches no further than the
-- place. The measure is how many places are left.
use native.Mathlib.Omega.{arith}
use mathlib.Core.Path.{refl, ◌∙◌}
use Rattle.reversals.specs.Reversals.{leaves, Inside}
use Rattle.reversals.proofs.Places.{left_less, still_in, none_shared, still_behind}
use Rattle.reversals.proofs.Turns.{found_here, not_here, none_left}
use Rattle.reversals.proofs.first_move.Goals as goal

pub loop-place-init : goal.loop-place-init
loop-place-init c =
    (refl, refl, c.requires.in_sweep, (rw c.at_depot-head.ensures (none_shared c.args.list.now _ c.requires.worked.0), refl))

pub head_up_to-head-requires : goal.head_up_to-head-requires
head_up_to-head-requires c =
    rw c.loop-place.invariant.0 (record {
      depot_lt_l = (
        c.requires.worked.0.depot_there,
        c.requires.worked.1,
        omega (arith, c.loop-place.invariant.1, c.loop-place-test.true, c.loop-place.invariant.2.ordered),
      );
      driven = c.loop-place.invariant.3.0;
    })

pub try_reversal-requires : goal.try_reversal-requires
try_reversal-requires c =
    rw c.loop-place.invariant.0 (record {
      worked = c.requires.worked;
      first_lt_last = (c.loop-place.invariant.2.ordered, c.loop-place-test.true);
      shared = (rw c.loop-place.invariant.0 at c.head_up_to-head.ensures.driven_2, c.head_up_to-head.ensures.visits_le_to);
    })

pub returns-then-try_reversal : goal.returns-then-try_reversal
returns-then-try_reversal c =
    found_here _ _ _ _ _ _ c.loop-place.invariant.0 c.loop-place.invariant.2.ordered c.loop-place-test.true c.loop-place.invariant.3.1 _ c.try_reversal.ensures.value
    c.try_reversal.ensures.list_after
    c.if-try_reversal.true

pub place_after-place-requires : goal.place_after-place-requires
place_after-place-requires c =
    (c.loop-place.invariant.2.ordered, c.loop-place-test.true)

pub loop-place-smaller : goal.loop-place-smaller
loop-place-smaller c =
    rw c.place_after-place.ensures (left_less _ _ c.loop-place.invariant.2.ordered c.loop-place-test.true)

pub loop-place-preserved : goal.loop-place-preserved
loop-place-preserved c =
    let rest =
    not_here _ _ _ _ _ _ c.loop-place.invariant.0 c.loop-place.invariant.2.ordered c.loop-place-test.true c.loop-place.invariant.3.1 _ c.try_reversal.ensures.value
    c.try_reversal.ensures.list_after c.if-try_reversal.false in
    let near = rw c.loop-place.invariant.0 at c.head_up_to-head.ensures.driven_2 in
    rw c.place_after-place.ensures (rest.0, refl, still_in _ _ c.loop-place.invariant.2.ordered c.loop-place-test.true, ((near, still_behind _ _ _ c.head_up_to-head.ensures.visits_le_to), rest.1))

pub returns : goal.returns
unfolding leaves Inside
returns c =
    record { leads = none_left _ _ _ _ c.loop-place.invariant.2 c.loop-place-test.false ∙ c.loop-place.invariant.3.1; left = c.loop-place.invariant.0; inside = tt }
