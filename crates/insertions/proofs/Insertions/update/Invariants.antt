-- `update`: what is known of the visits before this one is changed, all else is as it was.
use Rattle.insertions.specs.Cache.{Updated}
use Rattle.insertions.proofs.Insertions.update.Given as goal

abbrev pub invariant-loop-visit : goal.invariant-loop-visit
invariant-loop-visit g l =
    Updated (λ v known after. goal.F-post g l.change v known after) l.r l.visit l.initial.self l.self
