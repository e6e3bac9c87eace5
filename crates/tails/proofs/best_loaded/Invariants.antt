-- `best_loaded`: the best so far and the cuts of the first list still ahead choose what all cuts do from nothing on; the exchanges are judged as at the
-- start.
use mathlib.Core.Path.{◌≡◌}
use Prim.Native.Nat.{suc, ◌≤◌}
use lib.ListN.{length, take}
use Rattle.descent.specs.Order.{range, scan}
use Rattle.tail_candidates.specs.TwoLists.{load_in}
use Rattle.tails.specs.Best.{row_by, best_by}
use Rattle.tails.proofs.best_loaded.Given as goal

abbrev pub invariant-loop-last : goal.invariant-loop-last
invariant-loop-last g l =
    let judge = g.P.TailPair in
    let delta = judge.delta l.initial.pair in
    let passes = judge.passes l.initial.pair in
    let n1 = length l.two.one.now in
    let n2 = length l.two.other.now in
    (l.last ≤ n1)
    × (l.head1 ≡ load_in l.two (take l.last l.two.one.now))
    × (scan (row_by delta passes n2) (range (suc l.last) (suc n1)) l.best ≡ best_by delta passes n1 n2 l.two.terms.floor)
    × (judge.two l.pair ≡ judge.two l.initial.pair)
    × (judge.delta l.pair ≡ delta)
    × (judge.passes l.pair ≡ passes)
