-- `buffers::append_reversed` meets its contract. The invariant: the first i visits of the reversed part stand behind the first `count`.
use lib.ListN.{length-reverse}
use Rattle.edits.proofs.Chain.{storing_more, get_or-reverse}
use Rattle.buffers.proofs.append_reversed.Goals as goal

pub loop-i-preserved : goal.loop-i-preserved
loop-i-preserved c =
    storing_more _ _ _ _ _ _ (rw length-reverse c.requires) (rw length-reverse c.loop-i-test.true) (get_or-reverse c.args.part.now c.loop-i.i c.loop-i-test.true) c.loop-i.invariant
