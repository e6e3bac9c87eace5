-- `best_piece`: what the pieces still ahead come to from the best so far is what all pieces do from nothing on. A piece as long as the list has no position.
use Prim.Native.Nat.{suc, ◌-◌, ◌≤◌, ◌<◌}
use native.Mathlib.Omega.{arith}
use lib.ListN.{length}
use Rattle.engine.proofs.Choosing.{onto_starts, turn_each, end_each}
use Rattle.segments.proofs.Choosing.{known_start}
use Rattle.segment_moves.proofs.Rows.{all_chosen, none_chosen}
use Rattle.segment_moves.proofs.best_piece.Goals as goal

pub returns-then-n-size : goal.returns-then-n-size
returns-then-n-size c =
    none_chosen _ c.args.terms _ _ (omega (arith, c.if-n-size.true))

pub loop-from-init : goal.loop-from-init
loop-from-init c =
    (omega arith, rw c.below-best.ensures (onto_starts _ _ _ _ _ _ (known_start _ _ _ c.requires.asked)))

pub best_from-best-requires-clause-known : goal.best_from-best-requires-clause-known
best_from-best-requires-clause-known c =
    c.loop-from.invariant.1.known

pub loop-from-preserved : goal.loop-from-preserved
loop-from-preserved c =
    let ahead : c.loop-from.from < suc (length c.args.list.now - c.args.size) = omega arith in
    (omega arith, turn_each _ _ _ _ _ _ _ _ _ _ _ ahead c.loop-from.invariant.1 c.best_from-best.ensures)

pub returns : goal.returns
returns c =
    let none_ahead : suc (length c.args.list.now - c.args.size) ≤ c.loop-from.from = omega arith in
    all_chosen _ c.args.terms _ _ _ _ c.below-best.ensures (end_each _ _ _ _ _ _ _ _ _ _ none_ahead c.loop-from.invariant.1)
