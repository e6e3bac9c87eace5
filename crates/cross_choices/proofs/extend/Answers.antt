-- `extend`: the entries from `from` on, up to here, are the first one; the others are as they were.
use mathlib.Core.Path.{refl}
use native.Mathlib.Omega.{arith}
use Rattle.cross_choices.proofs.Deciding.{extending_turns}
use Rattle.cross_choices.proofs.extend.Goals as goal

pub loop-j-init : goal.loop-j-init
loop-j-init c =
    record {
      long = refl;
      begun = omega arith;
      kept = λ i below. refl;
      copied = λ i above some below. absurd (omega (arith, above, below));
    }

pub loop-j-preserved : goal.loop-j-preserved
loop-j-preserved c =
    extending_turns _ _ _ _ c.loop-j.invariant (omega (arith, c.loop-j-test.true, c.requires.0))

pub returns : goal.returns
returns c =
    record {
      kept = c.loop-j.invariant.kept;
      copied = λ i above some below. c.loop-j.invariant.copied i above some (omega (arith, below, c.loop-j-test.false));
    }
