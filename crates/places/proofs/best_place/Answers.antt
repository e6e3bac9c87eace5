-- `best_place`: before each place, the best among the places from here on is the best among all, and the least so far is the least of those passed.
use borrow.Author.Rules.{rules}
use mathlib.Core.Path.{◌≡◌, refl, sym, ◌∙◌}
use Prim.Native.Nat.{suc, ◌-◌}
use native.Mathlib.Omega.{arith}
use lib.ListN.{length}
use Rattle.insertions.proofs.Reached.{least_start, least_turn}
use Rattle.places.proofs.Inserting.{among_turn, among_end}
use Rattle.places.proofs.best_place.Goals as goal

pub loop-place-init : goal.loop-place-init
loop-place-init c =
    (refl, least_start _ _ c.infinite.ensures.answer, omega arith)

pub loop-place-preserved : goal.loop-place-preserved
loop-place-preserved c = (
  among_turn _ c.args.setup _ _ _ _ _ _ _ (omega (arith, c.loop-place-test.true)) (c.insertion_delta-insertion.ensures ∙ rw (c.matrix-matrix.ensures.size, c.matrix-matrix.ensures.entries, c.from-visit.ensures))
      (λ e. let told = c.better_of-after.ensures.1 e in search rules) c.better_of-after.ensures.2 ∙ c.loop-place.invariant.0,
  least_turn _ _ _ _ _ c.loop-place.invariant.1 (c.insertion_delta-insertion.ensures ∙ rw (c.matrix-matrix.ensures.size, c.matrix-matrix.ensures.entries, c.from-visit.ensures))
      c.lesser_of-least.ensures,
  omega (arith, c.loop-place-test.true),
)

pub returns-clause-best_value : goal.returns-clause-best_value
returns-clause-best_value c =
    let past : suc (length c.args.list.now) ≡ c.loop-place.place-counter = omega
    (arith, c.loop-place-test.false, c.loop-place.invariant.2) in
    sym (among_end _ c.args.setup _ _ _ _ (omega (arith, past))) ∙ c.loop-place.invariant.0
