-- `OrOpt::first_move`: the first move from here on is the first from `first` on; a length that has none is passed over.
use mathlib.Core.Path.{◌≡◌}
use Rattle.descent.specs.Order.{range}
use Rattle.descent.specs.Search.{first_move}
use Rattle.segments.specs.Segments.{search_of, judge_of}
use Rattle.labels.specs.Lent.{lent}
use Rattle.or_opt.proofs.OrOpt.first_move.Given as goal

abbrev pub invariant-loop-size : goal.invariant-loop-size
invariant-loop-size l =
    let c = lent l.self.columns.now in
    let t = l.self.terms in
    first_move (search_of c t) (judge_of c t) l.self.list.now (range l.size 4) ≡ first_move (search_of c t) (judge_of c t) l.self.list.now (range l.first 4)
