-- `buffers::append` meets its contract. The invariant: the first i visits of the part stand behind the first `count`.
use mathlib.Core.Path.{refl}
use Rattle.edits.proofs.Chain.{storing_more}
use Rattle.buffers.proofs.append.Goals as goal

pub loop-i-preserved : goal.loop-i-preserved
loop-i-preserved c =
    storing_more _ _ _ _ _ _ c.requires c.loop-i-test.true refl c.loop-i.invariant
