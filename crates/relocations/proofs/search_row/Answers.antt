-- `search_row`: before each pair, those before it are right.
use mathlib.Core.Path.{◌∙◌}
use Rattle.relocations.proofs.Searching.{row_turn}
use Rattle.relocations.proofs.search_row.Goals as goal

pub loop-to-preserved : goal.loop-to-preserved
loop-to-preserved g c =
    let laid = g.met.E.PairSearch.laid _ _ _ c.requires.is_ready in (
      row_turn (g.E.PairSearch.terms c.args.engine.now) _ _ laid _ _ _ _ c.requires.from_in_bounds c.loop-to-test.true c.loop-to.invariant.0
          (rw c.loop-to.invariant.1 at c.search_pair.ensures.searched),
      c.search_pair.ensures.still.0 ∙ c.loop-to.invariant.1,
      c.search_pair.ensures.still.1,
    )
