-- Two lists of the tables: lists of different depots are different lists; and what a pair makes of the best so far. Assumes nothing.
use mathlib.Core.Path.{◌≡◌, refl, sym, ap, ◌∙◌}
use mathlib.Core.Logic.{◌≢◌}
use mathlib.Core.Bool.{Bool, true, false, false≢true}
use mathlib.Core.List.{List}
use Prim.Native.Nat.{ℕ}
use borrow.Author.Tests.{eq-eqb}
use lib.IntN.{ℤ}
use lib.ListN.{length, get_or}
use lib.Ieee.{Float}
use Rattle.tests.specs.Pick.{picked, other}
use Rattle.lists.specs.Table.{list_of}
use Rattle.lists.proofs.Tables.{at_lists, length-lists}
use Rattle.labels.specs.Columns.{Columns}
use Rattle.descent.specs.Order.{range, scan}
use Rattle.fleet.specs.Fleet.{Fleet, Manned}
use Rattle.cross_moves.specs.CrossDepot.{pair_of, same_depot, plan_of}
use Rattle.cross_choices.specs.Scan.{Paired, best_between, best_of_pair, best_from, best_of}
use Rattle.cross_moves.specs.declared.pair.Pair.{Pair}
use Rattle.cross_choices.specs.declared.Choice.{Choice}
use Rattle.fleet.proofs.Numbered.{vehicle_driven}

module _ (fleet : Fleet) (ids : List ℕ) (costs : List Float) (a b : ℕ) where
  -- the vans of a list and itself start from one depot
  pub depots_apart : same_depot (pair_of fleet ids costs a b) ≡ false → a ≢ b
  unfolding pair_of
  depots_apart e same = false≢true (sym e ∙ eq-eqb _ _ (ap (λ k. (pair_of fleet ids costs k b).van1.depot) same))

  pub pair_apart : (pair : Pair) → pair ≡ pair_of fleet ids costs a b → (same : Bool) → same ≡ same_depot pair → same ≡ false → a ≢ b
  pair_apart pair is same asked e = depots_apart (rw is at (sym asked ∙ e))

  pub pair_driven : (l : ℕ) → Manned l fleet → Paired l (pair_of fleet ids costs a b)
  unfolding pair_of
  pair_driven l m = record { driven1 = vehicle_driven l fleet (get_or ids a 0) m; driven2 = vehicle_driven l fleet (get_or ids b 0) m }

module _ (c : Columns) (demand : List ℤ) (fleet : Fleet) (visits lengths ids : List ℕ) (costs : List Float) where
  -- the loops over the lists
  pub from_start : (a : ℕ) (best : Choice)
      → scan (best_of_pair c demand fleet (plan_of visits lengths ids costs) a) (range 0 (length lengths)) best
      ≡ best_from c demand fleet (plan_of visits lengths ids costs) a best
  unfolding best_from
  from_start a best = rw (length-lists visits lengths)

  pub all_start : (best : Choice)
      → scan (best_from c demand fleet (plan_of visits lengths ids costs)) (range 0 (length lengths)) best
      ≡ best_of c demand fleet (plan_of visits lengths ids costs) best
  unfolding best_of
  all_start best = rw (length-lists visits lengths)

  module _ (a b : ℕ) (best : Choice) (pair : Pair) (is : pair ≡ pair_of fleet ids costs a b) (same : Bool) (asked : same ≡ same_depot pair) where
    pub pair_same : same ≡ true → best ≡ best_of_pair c demand fleet (plan_of visits lengths ids costs) a b best
    unfolding best_of_pair
    pair_same e = picked (same_depot (pair_of fleet ids costs a b)) _ _ _ (rw is at (sym asked ∙ e)) refl

    pub pair_other : (X Y : List ℕ) (r : Choice) → same ≡ false → X ≡ list_of visits lengths a → Y ≡ list_of visits lengths b
        → r ≡ best_between c demand pair X Y best → r ≡ best_of_pair c demand fleet (plan_of visits lengths ids costs) a b best
    unfolding best_of_pair
    pair_other X Y r e x y d =
        other (same_depot (pair_of fleet ids costs a b)) _ _ _ (rw is at (sym asked ∙ e))
        (rw (at_lists visits lengths a, at_lists visits lengths b, ← x, ← y, ← is) d)
