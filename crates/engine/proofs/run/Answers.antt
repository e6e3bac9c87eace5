-- `run`: a move that was found leads where the definition's next move does; with none left, or with the limit used up, the run answers.
use mathlib.Core.Path.{refl}
use Rattle.descent.proofs.Going.{going_starts, going_moves}
use Rattle.engine.proofs.Running.{going_settles, going_stops, none_led, one_led}
use Rattle.engine.proofs.run.Goals as goal

pub loop-next-init : goal.loop-next-init
loop-next-init g c =
    (c.requires, refl, going_starts _ _ _)

pub returns-in_default-clause-ended : goal.returns-in_default-clause-ended
returns-in_default-clause-ended g c =
    let nothing = none_led _ _ _ _ _ _ _ c.next_move-found.ensures.leads c.in_default.is in
    rw nothing.1 (going_settles _ _ _ _ _ c.loop-next.invariant.2 (rw c.loop-next.invariant.1 at nothing.0))

pub forgo-requires : goal.forgo-requires
forgo-requires g c =
    (one_led _ _ _ _ _ _ _ c.next_move-found.ensures.leads _ c.in-Some.is).0

pub returns-then-limit-moves-clause-ended : goal.returns-then-limit-moves-clause-ended
returns-then-limit-moves-clause-ended g c =
    let one = one_led _ _ _ _ _ _ _ c.next_move-found.ensures.leads _ c.in-Some.is in
    rw (c.forgo.ensures.forgone, one.1) (going_stops _ _ _ _ _ _ c.loop-next.invariant.2 c.if-limit-moves.true (rw c.loop-next.invariant.1 at one.2))

pub make-requires : goal.make-requires
make-requires g c =
    (one_led _ _ _ _ _ _ _ c.next_move-found.ensures.leads _ c.in-Some.is).0

pub loop-next-preserved : goal.loop-next-preserved
loop-next-preserved g c =
    let one = one_led _ _ _ _ _ _ _ c.next_move-found.ensures.leads _ c.in-Some.is in (
      c.make.ensures.ready,
      rw (c.make.ensures.same, c.next_move-found.ensures.same) c.loop-next.invariant.1,
      rw c.make.ensures.made (going_moves _ _ _ _ _ _ c.loop-next.invariant.2 c.if-limit-moves.false (rw c.loop-next.invariant.1 at one.2)),
    )
