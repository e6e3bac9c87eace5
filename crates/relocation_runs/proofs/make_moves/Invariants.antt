-- `make_moves`: the moves made and the run that is left are the whole run; the table of pairs is right of the lists as they stand.
use mathlib.Core.Path.{◌≡◌}
use Prim.Native.Nat.{◌-◌}
use lib.ListN.{length}
use Rattle.lists.specs.Table.{lists}
use Rattle.list_changes.specs.Edits.{Edited}
use Rattle.relocations.specs.Relocations.{PairsRight, Every}
use Rattle.relocation_runs.proofs.Going.{Running}
use Rattle.relocation_runs.proofs.make_moves.Given as goal

abbrev pub invariant-loop-best : goal.invariant-loop-best
invariant-loop-best g l =
    let terms = g.E.PairSearch.terms l.initial.engine in
    Running terms l.limit (lists l.initial.visits l.initial.lengths) l.moves (lists l.visits l.lengths)
    × Edited l.initial.visits l.initial.lengths l.visits l.lengths (lists l.visits l.lengths)
    × PairsRight terms (lists l.visits l.lengths) (length l.lengths) Every l.table
    × (g.E.PairSearch.terms l.engine ≡ terms) × g.E.PairSearch.ready l.engine l.visits l.lengths

abbrev pub decreases-loop-best : goal.decreases-loop-best
decreases-loop-best g l =
    l.limit - l.moves
