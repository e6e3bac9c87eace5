-- `search_all`: before each row, the pairs of the rows before it are right.
use mathlib.Core.Path.{◌≡◌}
use lib.ListN.{length}
use Rattle.lists.specs.Table.{lists}
use Rattle.pairs.specs.Pairs.{Before}
use Rattle.relocations.specs.Relocations.{PairsRight}
use Rattle.relocations.proofs.search_all.Given as goal

abbrev pub invariant-loop-from : goal.invariant-loop-from
invariant-loop-from g l =
    PairsRight (g.E.PairSearch.terms l.initial.engine) (lists l.visits l.lengths) (length l.lengths) (Before l.from 0) l.table
    × (g.E.PairSearch.terms l.engine ≡ g.E.PairSearch.terms l.initial.engine) × g.E.PairSearch.ready l.engine l.visits l.lengths
