-- `best_between`: what the positions still ahead come to from the best so far is what all come to from the best at the start.
use mathlib.Core.Logic.{⊎_elim, inl, inr}
use native.Mathlib.Omega.{arith}
use Rattle.engine.proofs.Choosing.{onto_starts, turn_one, end_one}
use Rattle.segment_moves.proofs.best_between.Goals as goal

pub loop-to-init : goal.loop-to-init
loop-to-init c =
    (omega arith, onto_starts _ _ _ _ _ _ c.requires.known)

pub consider-found-requires-clause-fits : goal.consider-found-requires-clause-fits
consider-found-requires-clause-fits c =
    record {
      inside = c.requires.size_in_bounds.0;
      there = omega arith;
      apart = ⊎_elim (λ before. inl (omega arith)) (λ behind. inr (omega arith)) c.requires.fact;
    }

pub consider-found-requires-clause-known : goal.consider-found-requires-clause-known
consider-found-requires-clause-known c =
    c.loop-to.invariant.1.known

pub loop-to-preserved : goal.loop-to-preserved
loop-to-preserved c =
    (omega arith, turn_one _ _ _ _ _ _ _ _ _ _ _ c.loop-to-test.true c.loop-to.invariant.1 c.consider-found.ensures)

pub returns : goal.returns
returns c =
    end_one _ _ _ _ _ _ _ _ _ _ c.loop-to-test.false c.loop-to.invariant.1
