-- `better_of`: what isn't below the best so far isn't asked; else the answer decides.
use mathlib.Core.Path.{sym, ◌∙◌}
use mathlib.Core.Bool.{true, false, false≢true}
use Rattle.relocations.specs.Offers.{better}
use Rattle.relocations.proofs.offer.better_of.Goals as goal

pub returns-then-passes : goal.returns-then-passes
unfolding better
returns-then-passes g c =
    (true, (λ e. rw c.if-passes.true at c.passes.ensures), rw c.if-delta-best.true)

pub returns-else-passes : goal.returns-else-passes
unfolding better
returns-else-passes g c =
    (false, (λ e. rw c.if-passes.false at c.passes.ensures), rw c.if-delta-best.true)

pub returns-else-delta-best : goal.returns-else-delta-best
unfolding better
returns-else-delta-best g c =
    (false, (λ e. absurd (false≢true (sym c.if-delta-best.false ∙ e))), rw c.if-delta-best.false)
