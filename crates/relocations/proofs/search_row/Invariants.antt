-- `search_row`: before each pair, those before it are right.
use mathlib.Core.Path.{◌≡◌}
use lib.ListN.{length}
use Rattle.lists.specs.Table.{lists}
use Rattle.pairs.specs.Pairs.{Before}
use Rattle.relocations.specs.Relocations.{PairsRight}
use Rattle.relocations.proofs.search_row.Given as goal

abbrev pub invariant-loop-to : goal.invariant-loop-to
invariant-loop-to g l =
    PairsRight (g.E.PairSearch.terms l.initial.engine) (lists l.visits l.lengths) (length l.lengths) (Before l.from l.to) l.table
    × (g.E.PairSearch.terms l.engine ≡ g.E.PairSearch.terms l.initial.engine) × g.E.PairSearch.ready l.engine l.visits l.lengths
