-- `route_distance`: what is driven and the rest of the list make the whole distance.
use mathlib.Core.Path.{refl, ◌∙◌}
use native.Mathlib.Omega.{arith}
use lib.Ieee.{of_bits}
use Rattle.evaluation.specs.Distance.{distance_none, distance_first, distance_turn, distance_end}
use Rattle.evaluation.proofs.Distances.{others_are, other-below}
use Rattle.evaluation.proofs.distance.route_distance.Goals as goal

pub returns-in_default : goal.returns-in_default
unfolding of_bits
returns-in_default c =
    distance_none _ _ _ _ (omega (arith, c.in_default.len_below))

pub loop-visit-init : goal.loop-visit-init
loop-visit-init c = (
  rw c.from-place.ensures (c.requires.1.below 0 c.in-len1-up.len_at_least),
  rw (c.from-place.ensures, others_are c.args.list.now) (distance_first _ _ _ _ _ (λ h. omega (arith, h, c.in-len1-up.len_at_least)) (rw c.from-place.ensures at c.get-distance.ensures)),
)

pub get-distance-requires-in-loop-visit : goal.get-distance-requires-in-loop-visit
get-distance-requires-in-loop-visit c =
    (c.loop-visit.invariant.0, rw c.from-visit.ensures (other-below _ _ c.requires.1 c.loop-visit-test.true))

pub loop-visit-preserved : goal.loop-visit-preserved
loop-visit-preserved c =
    (rw c.from-visit.ensures (other-below _ _ c.requires.1 c.loop-visit-test.true), rw c.from-visit.ensures (distance_turn _ _ _ _ _ _ _ _ c.loop-visit-test.true (rw c.from-visit.ensures at c.get-distance-in-loop-visit.ensures) ∙ c.loop-visit.invariant.1))

pub returns : goal.returns
returns c =
    rw c.get.ensures (distance_end _ _ _ _ _ _ _ _ c.loop-visit-test.false refl) ∙ c.loop-visit.invariant.1
