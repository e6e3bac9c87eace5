-- `search_changed`: before each turn, the pairs without a and b and those searched again are right.
use mathlib.Core.Path.{◌∙◌}
use Rattle.relocations.proofs.Searching.{again_turn}
use Rattle.relocations.proofs.search_changed.Goals as goal

pub loop-other-preserved : goal.loop-other-preserved
loop-other-preserved g c =
    let laid = g.met.E.PairSearch.laid _ _ _ c.requires.is_ready in
    let terms = c.search_both.ensures.still.0 ∙ c.loop-other.invariant.1 in (
      again_turn (g.E.PairSearch.terms c.args.engine.now) _ _ laid _ _ _ _ _ _ c.requires.in_bounds.0 c.requires.in_bounds.1 c.loop-other-test.true c.loop-other.invariant.0
          (rw c.loop-other.invariant.1 at c.search_both.ensures.searched) (rw terms at c.search_both-in-loop-other.ensures.searched),
      c.search_both-in-loop-other.ensures.still.0 ∙ terms,
      c.search_both-in-loop-other.ensures.still.1,
    )
