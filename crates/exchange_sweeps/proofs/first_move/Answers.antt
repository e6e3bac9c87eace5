-- `first_move`: the first move from the place at hand on is the first from the start on. The measure is how many places are left.
use mathlib.Core.Path.{refl, ◌∙◌}
use Rattle.lists.proofs.Tables.{length-lists}
use Rattle.exchange_sweeps.proofs.Places.{still_in, left_less}
use Rattle.exchange_sweeps.proofs.Moves.{found_here, not_here, none_left, makeable}
use Rattle.exchange_sweeps.proofs.first_move.Goals as goal

pub returns-in-Some-clause-leads : goal.returns-in-Some-clause-leads
returns-in-Some-clause-leads g c =
    found_here (g.S.TailSearch.rules c.args.search.now) _ _ (length-lists _ _) _ _ c.loop-place.invariant.1.ordered c.loop-place-test.true c.best_at.ensures _ c.in-Some.is
    ∙ c.loop-place.invariant.2

pub returns-in-Some-clause-makeable : goal.returns-in-Some-clause-makeable
returns-in-Some-clause-makeable g c =
    makeable (g.S.TailSearch.rules c.args.search.now) _ _ _ _ _ c.in-Some.cut c.requires.held.0 c.loop-place.invariant.1.ordered c.loop-place-test.true c.best_at.ensures c.in-Some.is

pub loop-place-smaller : goal.loop-place-smaller
loop-place-smaller g c =
    rw c.place_after-place.ensures (left_less _ _ c.loop-place.invariant.1.ordered c.loop-place-test.true)

pub loop-place-preserved : goal.loop-place-preserved
loop-place-preserved g c =
    rw c.place_after-place.ensures (
      refl,
      still_in _ _ c.loop-place.invariant.1.ordered c.loop-place-test.true,
      not_here (g.S.TailSearch.rules c.args.search.now) _ _ (length-lists _ _) _ _ c.loop-place.invariant.1.ordered c.loop-place-test.true c.best_at.ensures c.in_default.not-Some
          ∙ c.loop-place.invariant.2,
    )

pub returns-clause-leads : goal.returns-clause-leads
returns-clause-leads g c =
    none_left (g.S.TailSearch.rules c.args.search.now) _ _ (length-lists _ _) _ c.loop-place.invariant.1 c.loop-place-test.false ∙ c.loop-place.invariant.2
