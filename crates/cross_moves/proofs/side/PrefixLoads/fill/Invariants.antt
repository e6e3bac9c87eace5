-- `fill`: before each visit the table holds the loads up to it, and no running sum can wrap.
use Rattle.cross_moves.proofs.Fitting.{Filling}
use Rattle.cross_moves.proofs.side.PrefixLoads.fill.Given as goal

abbrev pub invariant-loop-k : goal.invariant-loop-k
invariant-loop-k l =
    Filling l.demand l.list l.self.sums l.load l.k
