-- `descend`: the moves made and the run that is left are the whole run, the first entries of the tables are the plan, and the table of least deltas has the
-- pairs of old lists; proofs/Going.antt has the start, the turn and the end.
use borrow.Author.Tests.{ltb-true}
use mathlib.Core.Path.{refl, sym, ◌∙◌}
use native.Mathlib.Omega.{arith}
use Rattle.cross_search.proofs.Keeping.{kept_start}
use Rattle.cross_runs.proofs.Going.{begins, ends_settled, ends_stopped, goes_on}
use Rattle.cross_runs.proofs.descend.Goals as goal

pub loop-n-init : goal.loop-n-init
loop-n-init c =
    let begun = begins _ _ _ _ _ _ _ _ _ c.requires.held.0 c.requires.held.1 c.requires.held.2 in (
      begun.0,
      begun.1,
      refl,
      λ f. refl,
      record { long = c.none-deltas.ensures.1; right = kept_start _ _ _ _ _ _ _ _ _ c.none-deltas.ensures.0 },
    )

pub returns-in-NoGain : goal.returns-in-NoGain
returns-in-NoGain c =
    rw c.ended_with.ensures
    (ends_settled _ _ _ _ _ _ c.args.terms.now.floor _ _ _ c.args.visits.now _ _ _ _ c.loop-n.invariant.1 c.loop-n.invariant.2
    c.loop-n.invariant.3 c.loop-n.invariant.0 _ _ _ _ c.take_turn-turn.new.deltas _ refl (rw c.in-NoGain.is at c.take_turn-turn.ensures))

pub returns-in-NoRoom : goal.returns-in-NoRoom
returns-in-NoRoom c =
    rw c.ended_with-in-NoRoom.ensures
    (ends_stopped _ _ _ _ _ _ c.args.terms.now.floor _ _ _ c.args.visits.now _ _ _ _ c.loop-n.invariant.1 c.loop-n.invariant.2
    c.loop-n.invariant.3 c.loop-n.invariant.0 _ _ _ _ c.take_turn-turn.new.deltas _ refl (rw c.in-NoRoom.is at c.take_turn-turn.ensures))

pub overflow_add-moves : goal.overflow_add-moves
overflow_add-moves c =
    let came = rw c.in-Left.is at c.take_turn-turn.ensures in
    omega (arith, c.ranges.limit, ltb-true c.loop-n.moves c.args.limit came.0)

pub loop-n-smaller : goal.loop-n-smaller
loop-n-smaller c =
    let came = rw c.in-Left.is at c.take_turn-turn.ensures in
    omega (arith, ltb-true c.loop-n.moves c.args.limit came.0)

pub loop-n-preserved : goal.loop-n-preserved
loop-n-preserved c =
    let on = goes_on _ _ _ _ _ _ c.args.terms.now.floor _ _ _ c.args.visits.now _ _ _ _ c.loop-n.invariant.1 c.loop-n.invariant.2
    c.loop-n.invariant.3 c.loop-n.invariant.0 _ _ _ _ c.take_turn-turn.new.deltas _ refl _ (rw c.in-Left.is at c.take_turn-turn.ensures) in
    (on.0, on.1, c.take_turn-turn.auto.lengths ∙ c.loop-n.invariant.2, on.2, on.3)
