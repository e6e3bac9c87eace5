-- `fill`: before each visit the heads up to it are kept.
use Rattle.kept_heads.proofs.Keeping.{Keeping}
use Rattle.labels.specs.Lent.{lent}
use Rattle.kept_heads.proofs.KeptHeads.fill.Given as goal

abbrev pub invariant-loop-k : goal.invariant-loop-k
invariant-loop-k l =
    Keeping (lent l.columns) l.depot l.list l.self.heads l.head l.k
