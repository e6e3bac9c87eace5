-- `forget_all`: the figures before this one are no numbers; behind the last there are none.
use mathlib.Core.Path.{◌∙◌}
use native.Mathlib.Omega.{arith}
use lib.ListN.{length-set}
use Rattle.insertions.specs.Cache.{cell}
use Rattle.insertions.proofs.Cached.{nan_more, nan_all}
use Rattle.insertions.proofs.Insertions.forget_all.Goals as goal

pub loop-i-preserved : goal.loop-i-preserved
loop-i-preserved c = (
  length-set _ _ _ ∙ c.loop-i.invariant.0,
  nan_more _ _ _ c.unknown.ensures.answer (omega (arith, c.loop-i.invariant.0)) c.loop-i.invariant.1,
)

pub returns : goal.returns
returns c =
    λ visit list. nan_all _ (λ k h. c.loop-i.invariant.1 k (omega (arith, c.loop-i.invariant.0))) (cell visit list)
