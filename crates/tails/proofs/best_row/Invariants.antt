-- `best_row`: the best so far and the cuts still ahead choose what the best at the start and all cuts do; the second head's load is kept running, and the
-- exchanges are judged as at the start.
use mathlib.Core.Path.{◌≡◌}
use Prim.Native.Nat.{suc, ◌≤◌}
use lib.ListN.{length, take}
use Rattle.descent.specs.Order.{range, scan}
use Rattle.tail_candidates.specs.Choice.{better_by}
use Rattle.tail_candidates.specs.TwoLists.{load_in}
use Rattle.tails.specs.Best.{row_by}
use Rattle.tails.proofs.best_row.Given as goal

abbrev pub invariant-loop-last : goal.invariant-loop-last
invariant-loop-last g l =
    let judge = g.P.TailPair in
    let delta = judge.delta l.initial.pair in
    let passes = judge.passes l.initial.pair in
    let n2 = length l.two.other.now in
    (l.last ≤ n2)
    × (l.head2 ≡ load_in l.two (take l.last l.two.other.now))
    × (scan (better_by delta passes l.cut1) (range (suc l.last) (suc n2)) l.found ≡ row_by delta passes n2 l.cut1 l.initial.found)
    × (judge.two l.pair ≡ judge.two l.initial.pair)
    × (judge.delta l.pair ≡ delta)
    × (judge.passes l.pair ≡ passes)
