-- `best_of_kinds`: before each kind, the scan from here on comes to all moves between the two lists.
use mathlib.Core.Path.{◌≡◌}
use Rattle.descent.specs.Order.{range, scan}
use Rattle.cross_choices.specs.Scan.{best_between}
use Rattle.cross_choices.specs.Rows.{best_of_kind}
use Rattle.cross_pairs.specs.Kinds.{kind_at, kinds_of}
use Rattle.labels.specs.Lent.{lent}
use Rattle.cross_pairs.proofs.best_of_kinds.Given as goal

abbrev pub invariant-loop-n : goal.invariant-loop-n
invariant-loop-n l =
    scan (λ n. best_of_kind (lent l.columns) l.demand l.pair l.one.list.now l.other.list.now (kind_at n)) (range l.n (kinds_of l.pair.one l.pair.other)) l.found
    ≡ best_between (lent l.columns) l.demand l.pair l.one.list.now l.other.list.now l.initial.found
