-- A move made in the tables: what the edits leave is the plan after the move, and behind its lists there is nothing. Assumes nothing.
use mathlib.Core.Path.{◌≡◌, refl, sym, ap, ◌∙◌}
use mathlib.Core.List.{List, [], ◌∷◌}
use Prim.Native.Nat.{ℕ, zero, suc, ◌-◌}
use native.Mathlib.Omega.{arith}
use lib.ListN.{length, set, take, drop, replicate, length-set}
use lib.Seq.{take_at, drop_at}
use lib.Ieee.{Float}
use Rattle.numbers.specs.Operations.{zero64}
use Rattle.lists.specs.Table.{Laid, lists, lengths_of}
use Rattle.list_changes.specs.Edits.{Edited, filled, nonzero, packed}
use Rattle.lists.proofs.Tables.{lengths_lists}
use Rattle.list_changes.proofs.Packing.{packed_first, nonzero_le, sum-nonzero, length-packed}
use Rattle.cross_moves.specs.CrossDepot.{of_filled, exchanged_by, dropped, after_move, plan_of}
use Rattle.cross_changes.specs.Tables.{packed_by, Made}
use Rattle.cross_moves.specs.declared.pair.Move.{Move}
use Rattle.cross_changes.proofs.Dropping.{length-filled, packed_front, packed_back}

-- the first k lists of the tables
pub take-lists : (k : ℕ) (visits lengths : List ℕ) → lists visits (take k lengths) ≡ take k (lists visits lengths)
unfolding lists
take-lists zero visits lengths = refl
take-lists (suc k) visits [] = refl
take-lists (suc k) visits (n ∷ lengths) = ap (λ z. take n visits ∷ z) (take-lists k (drop n visits) lengths)

-- the lengths that aren't 0, and those behind them
packed_lengths : (lengths : List ℕ) → take (length (nonzero lengths)) (packed lengths) ≡ nonzero lengths
unfolding packed
packed_lengths lengths = take_at (nonzero lengths) _ (length (nonzero lengths)) refl

packed_zeros : (lengths : List ℕ) → drop (length (nonzero lengths)) (packed lengths) ≡ replicate (length lengths - length (nonzero lengths)) 0
unfolding packed
packed_zeros lengths = drop_at (nonzero lengths) _ (length (nonzero lengths)) refl

module _ (visits lengths ids : List ℕ) (costs : List Float) (m : Move) (cost1 cost2 : Float) (visits' lengths₁ : List ℕ)
    (edited : Edited visits lengths visits' lengths₁ (exchanged_by (lists visits lengths) m)) (even-ids : length ids ≡ length lengths)
    (even-costs : length costs ≡ length lengths) where
  many_ids : length ids ≡ length lengths₁
  many_ids = omega (arith, edited.number)

  many_costs : length (set (set costs m.one cost1) m.other cost2) ≡ length lengths₁
  many_costs = simp length-set (omega (arith, edited.number))

  the_lists : filled (lists visits' lengths₁) ≡ filled (exchanged_by (lists visits lengths) m)
  the_lists = ap filled edited.holds

  the_lengths : lengths_of (exchanged_by (lists visits lengths) m) ≡ lengths₁
  the_lengths = ap lengths_of (sym edited.holds) ∙ lengths_lists visits' lengths₁ edited.laid.add_up

  kept_lists : lists visits' (take (length (nonzero lengths₁)) (packed lengths₁)) ≡ filled (exchanged_by (lists visits lengths) m)
  kept_lists =
      take-lists (length (nonzero lengths₁)) visits' (packed lengths₁) ∙ packed_first visits' lengths₁ edited.laid.add_up ∙ the_lists

  kept_ids : take (length (nonzero lengths₁)) (packed_by 0 lengths₁ ids) ≡ of_filled (lengths_of (exchanged_by (lists visits lengths) m)) ids
  kept_ids =
      packed_front 0 lengths₁ ids (length (nonzero lengths₁)) (sym (length-filled lengths₁ ids many_ids))
      ∙ ap (λ z. of_filled z ids) (sym the_lengths)

  kept_costs : take (length (nonzero lengths₁)) (packed_by zero64 lengths₁ (set (set costs m.one cost1) m.other cost2))
      ≡ of_filled (lengths_of (exchanged_by (lists visits lengths) m)) (set (set costs m.one cost1) m.other cost2)
  kept_costs =
      packed_front zero64 lengths₁ (set (set costs m.one cost1) m.other cost2) (length (nonzero lengths₁)) (sym (length-filled lengths₁ _ many_costs))
      ∙ ap (λ z. of_filled z (set (set costs m.one cost1) m.other cost2)) (sym the_lengths)

  plan_made : plan_of visits' (take (length (nonzero lengths₁)) (packed lengths₁)) (take (length (nonzero lengths₁)) (packed_by 0 lengths₁ ids))
      (take (length (nonzero lengths₁)) (packed_by zero64 lengths₁ (set (set costs m.one cost1) m.other cost2)))
      ≡ after_move (plan_of visits lengths ids costs) m cost1 cost2
  unfolding after_move dropped
  plan_made = λ k. record { lists = kept_lists k; ids = kept_ids k; costs = kept_costs k }

  still_laid : Laid visits' (take (length (nonzero lengths₁)) (packed lengths₁))
  still_laid = rw (packed_lengths lengths₁) (record {
    few = omega (arith, nonzero_le lengths₁, edited.laid.few);
    add_up = sum-nonzero lengths₁ ∙ edited.laid.add_up;
    size = edited.laid.size;
  })

  -- in the code's numbers
  pub move_made : (costs₁ costs' : List Float) (lengths' ids' : List ℕ) (kept : ℕ) → costs₁ ≡ set (set costs m.one cost1) m.other cost2
      → ids' ≡ packed_by 0 lengths₁ ids → costs' ≡ packed_by zero64 lengths₁ costs₁ → kept ≡ length (nonzero lengths₁) → lengths' ≡ packed lengths₁
      → Made (plan_of visits lengths ids costs) m cost1 cost2 visits visits' lengths' ids' costs' kept
  move_made costs₁ costs' lengths' ids' kept c₁ i c k n = rw (i, c, c₁, k, n) (record {
    holds = plan_made;
    few = omega (arith, nonzero_le lengths₁, length-packed lengths₁);
    laid = still_laid;
    same = edited.same;
    no_lengths = rw length-packed (packed_zeros lengths₁);
    no_ids = packed_back 0 lengths₁ ids (length (nonzero lengths₁)) (sym (length-filled lengths₁ ids many_ids));
  })
