-- The kinds of moves one after another are the definition's relocations, swaps and tail exchanges. Assumes nothing.
use mathlib.Core.Path.{◌≡◌, refl, ap, ◌∙◌}
use mathlib.Core.Bool.{Bool, true, false, cond}
use mathlib.Core.List.{List, [], ◌∷◌}
use Prim.Native.Nat.{ℕ, zero, suc, ◌≤◌, ◌<◌}
use native.Mathlib.Omega.{arith}
use lib.Dec.{ltb}
use lib.IntN.{ℤ}
use lib.ListN.{length, get_or}
use Rattle.descent.specs.Order.{range, scan}
use Rattle.labels.specs.Columns.{Columns}
use Rattle.cross_moves.specs.declared.pair.Pair.{Pair}
use Rattle.cross_kinds.specs.Kinds.{move_at, row_of, rows_in}
use Rattle.cross_choices.specs.Scan.{try_relocation, try_exchange, relocate_row, exchange_row}
use Rattle.cross_choices.specs.Scan.{best_relocation, best_swap, best_tails, best_exchange, best_between}
use Rattle.cross_choices.specs.Rows.{best_of_row, best_of_kind}
use Rattle.cross_kinds.specs.declared.kind.Kind.TheVariants.{Relocation, Swap, Tails}
use Rattle.cross_choices.specs.declared.Choice.{Choice}
use Rattle.cross_pairs.specs.Kinds.{kind_at, kinds_of}

-- the table of kinds is in that order
pub kinds_listed : (n : ℕ) → n < 3 → get_or (Relocation ∷ Swap ∷ Tails ∷ []) n Relocation ≡ kind_at n
unfolding kind_at
kinds_listed zero h = refl
kinds_listed (suc zero) h = refl
kinds_listed (suc (suc zero)) h = refl
kinds_listed (suc (suc (suc n))) h = absurd (omega (arith, h))

pub kinds_few : (one other : ℕ) → kinds_of one other ≤ 3
unfolding kinds_of
kinds_few one other = by_test (ltb one other)
  where
    by_test : (b : Bool) → cond b 3 1 ≤ 3
    by_test true = omega arith
    by_test false = omega arith

module _ (c : Columns) (demand : List ℤ) (pair : Pair) (X Y : List ℕ) where
  relocations_are : (best : Choice) → best_of_kind c demand pair X Y Relocation best ≡ best_relocation c demand pair X Y best
  unfolding best_of_kind best_of_row rows_in row_of move_at best_relocation relocate_row try_relocation
  relocations_are best = refl

  swaps_are : (best : Choice) → best_of_kind c demand pair X Y Swap best ≡ best_swap c demand pair X Y best
  unfolding best_of_kind best_of_row rows_in row_of move_at best_swap exchange_row try_exchange
  swaps_are best = refl

  tails_are : (best : Choice) → best_of_kind c demand pair X Y Tails best ≡ best_tails c demand pair X Y best
  unfolding best_of_kind best_of_row rows_in row_of move_at best_tails exchange_row try_exchange
  tails_are best = refl

  one_kind : (best : Choice) → scan (λ n. best_of_kind c demand pair X Y (kind_at n)) (range 0 1) best ≡ best_relocation c demand pair X Y best
  unfolding scan kind_at
  one_kind best = relocations_are best

  all_kinds : (best : Choice) → scan (λ n. best_of_kind c demand pair X Y (kind_at n)) (range 0 3) best
      ≡ best_tails c demand pair X Y (best_swap c demand pair X Y (best_relocation c demand pair X Y best))
  unfolding scan kind_at
  all_kinds best =
      tails_are (best_of_kind c demand pair X Y Swap (best_of_kind c demand pair X Y Relocation best))
      ∙ ap (best_tails c demand pair X Y) (swaps_are (best_of_kind c demand pair X Y Relocation best)
      ∙ ap (best_swap c demand pair X Y) (relocations_are best))

  -- the kinds one after another, as many as are tried
  pub kinds_are : (best : Choice) → scan (λ n. best_of_kind c demand pair X Y (kind_at n)) (range 0 (kinds_of pair.one pair.other)) best
      ≡ best_between c demand pair X Y best
  unfolding best_between best_exchange kinds_of
  kinds_are best = by_test (ltb pair.one pair.other)
    where
      by_test : (b : Bool) → scan (λ n. best_of_kind c demand pair X Y (kind_at n)) (range 0 (cond b 3 1)) best
          ≡ cond b (best_tails c demand pair X Y (best_swap c demand pair X Y (best_relocation c demand pair X Y best))) (best_relocation c demand pair X Y best)
      by_test true = all_kinds best
      by_test false = one_kind best
