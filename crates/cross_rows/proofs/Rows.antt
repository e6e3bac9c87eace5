-- What a loop over a row has put down so far. Assumes nothing.
use mathlib.Core.Path.{◌≡◌, refl, ◌∙◌}
use mathlib.Core.Logic.{◌≢◌}
use mathlib.Core.Bool.{Bool, true, false}
use mathlib.Core.List.{List}
use Prim.Native.Nat.{ℕ, ◌+◌, ◌≤◌, ◌<◌}
use native.Mathlib.Nat.{add-mul}
use native.Mathlib.Omega.{arith}
use borrow.Author.Tests.{eqb-true, eqb-false}
use lib.Dec.{eqb}
use lib.ListN.{length, get_or, set, length-set}
use lib.Seq.{slice, get_or-set_same, get_or-set_other}
use lib.Ieee.{Float, nan, inf, lt}
use Rattle.day.specs.declared.vehicle.Van.{Van}
use Rattle.labels.specs.Columns.{Columns}
use Rattle.cross_moves.specs.CrossDepot.{priced_as, amount, replaced}
use Rattle.cross_rows.specs.Row.{from_at, to_at, changed, cost_unless, Costed}
use Rattle.cross_rows.specs.declared.Stretch.{Stretch}

-- the stretch of the next candidate begins no earlier
pub from_later : (own : Stretch) (j : ℕ) → from_at own j ≤ from_at own (j + 1)
from_later own j = omega (arith, add-mul j 1 own.from_step)

module _ (c : Columns) (van : Van) (mark bound : Float) where
  -- a candidate that isn't asked for
  pub cost_skipped : (list : List ℕ) → bound ≡ inf false → lt mark bound ≡ false → inf false ≡ cost_unless c van mark list
  unfolding cost_unless
  cost_skipped list b e = rw (← b, e)

  -- and one that is
  pub cost_asked : (list : List ℕ) (own : Stretch) (other : List ℕ) (others : Stretch) (j : ℕ) {cost : Float}
      {from to from2 to2 : ℕ} → bound ≡ inf false → lt mark bound ≡ true → from ≡ from_at own j → to ≡ to_at own j → from2 ≡ from_at others j →
      to2 ≡ to_at others j → cost ≡ amount (priced_as c van (replaced list from to (slice from2 to2 other))) →
      cost ≡ cost_unless c van mark (changed list own other others j)
  unfolding cost_unless
  cost_asked list own other others j b e f t f2 t2 is = is ∙ rw (f, t, f2, t2, ← b, e)

module _ (c : Columns) (van : Van) (list : List ℕ) (own : Stretch) (other : List ℕ) (others : Stretch) (skip : List Float) (size : ℕ) where
  -- the costs of the first j candidates
  pub record Costing (costs : List Float) (j : ℕ) : Type 0 where
    pub same_length : length costs ≡ size
    pub so_far : Costed c van list own other others skip j costs

  pub costing_starts : (costs : List Float) → length costs ≡ size → Costing costs 0
  costing_starts costs h = record { same_length = h; so_far = λ j below. absurd (omega arith) }

  pub costing_ends : (costs : List Float) (count j : ℕ) → Costing costs j → count ≤ j → Costed c van list own other others skip count costs
  costing_ends costs count j costing h = λ i below. costing.so_far i (omega arith)

  module _ (costs : List Float) (j : ℕ) (costing : Costing costs j) (there : j < size) (cost : Float)
      (is : cost ≡ cost_unless c van (get_or skip j nan) (changed list own other others j)) where
    turns : (next : List Float) → length next ≡ size → get_or next j nan ≡ cost → ((i : ℕ) → i ≢ j → get_or next i nan ≡ get_or costs i nan) → Costing next (j + 1)
    turns next long here others-kept = record { same_length = long; so_far = λ i below. entry i below (eqb i j) refl }
      where
        entry : (i : ℕ) → i < j + 1 → (t : Bool) → eqb i j ≡ t → get_or next i nan ≡ cost_unless c van (get_or skip i nan) (changed list own other others i)
        entry i below true t = rw (eqb-true i j t) (here ∙ is)
        entry i below false t = others-kept i (eqb-false i j t) ∙ costing.so_far i (omega (arith, below, eqb-false i j t))

    -- one candidate more
    pub costing_turns : Costing (set costs j cost) (j + 1)
    costing_turns =
        turns (set costs j cost) (length-set costs j cost ∙ costing.same_length)
        (get_or-set_same costs j cost nan (omega (arith, there, costing.same_length)))
        (λ i o. get_or-set_other costs j i cost nan o)

    -- one that was put down before
    pub costing_turns_twice : (before : Float) → Costing (set (set costs j before) j cost) (j + 1)
    costing_turns_twice before =
        turns (set (set costs j before) j cost) (length-set (set costs j before) j cost ∙ length-set costs j before ∙ costing.same_length)
        (get_or-set_same (set costs j before) j cost nan (omega (arith, there, costing.same_length, length-set costs j before)))
        (λ i o. get_or-set_other (set costs j before) j i cost nan o ∙ get_or-set_other costs j i before nan o)
