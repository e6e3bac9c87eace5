-- `search_changed`: before each turn, the pairs without a and b and those searched again are right.
use mathlib.Core.Path.{◌≡◌}
use lib.ListN.{length}
use Rattle.lists.specs.Table.{lists}
use Rattle.pairs.specs.Pairs.{Renewed}
use Rattle.relocations.specs.Relocations.{PairsRight}
use Rattle.relocations.proofs.search_changed.Given as goal

abbrev pub invariant-loop-other : goal.invariant-loop-other
invariant-loop-other g l =
    PairsRight (g.E.PairSearch.terms l.initial.engine) (lists l.visits l.lengths) (length l.lengths) (Renewed l.a l.b l.other) l.table
    × (g.E.PairSearch.terms l.engine ≡ g.E.PairSearch.terms l.initial.engine) × g.E.PairSearch.ready l.engine l.visits l.lengths
