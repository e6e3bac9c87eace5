-- A pair of which one list has no price has no exchange, since each asks for both prices. Assumes nothing.
use mathlib.Core.Path.{◌≡◌, refl, sym, ap, ◌∙◌}
use mathlib.Core.Bool.{true, false}
use mathlib.Core.List.{List, [], ◌∷◌}
use Prim.Native.Nat.{ℕ, suc}
use lib.ListN.{length}
use lib.Ieee.{lt}
use lib.Ieee.Scale.{finite}
use Rattle.tests.specs.All.{and_left, and_right}
use Rattle.tests.specs.Pick.{other}
use Rattle.descent.specs.Order.{range, scan}
use Rattle.descent.proofs.Members.{and_both}
use Rattle.tail_candidates.specs.Choice.{nothing, better_by}
use Rattle.tail_candidates.specs.declared.Choice.{Choice}
use Rattle.tail_candidates.specs.declared.two_lists.TwoLists.{TwoLists}
use Rattle.tails.specs.Best.{row_by, best_by}
use Rattle.tail_prices.specs.Changes.{cost_by, Priced, change_of}
use Rattle.tail_prices.specs.declared.Figures.{Figures}
use Rattle.soft_tail_candidates.specs.Candidate.{has_price, pass_by}
use Rattle.soft_tails.specs.Parts.{best_of}

-- a loop that changes nothing
scan_same : {A B : Type 0} (f : A → B → B) → ((x : A) (b : B) → f x b ≡ b) → (xs : List A) (b : B) → scan f xs b ≡ b
unfolding scan
scan_same f same [] b = refl
scan_same f same (x ∷ xs) b = ap (scan f xs) (same x b) ∙ scan_same f same xs b

module _ (two : TwoLists) (f : Figures) (costs : Priced two f) where
  -- both lists have a price
  pub prices_known : finite f.one.cost ≡ true → finite f.other.cost ≡ true → has_price two ≡ true
  prices_known one other =
      and_both (finite (cost_by two two.one.now)) (finite (cost_by two two.other.now)) (ap finite (sym costs.first_cost) ∙ one)
      (ap finite (sym costs.second_cost) ∙ other)

  -- a pair of which one list has no price
  nothing-there : has_price two ≡ false → nothing two.terms.floor ≡ best_of two
  unfolding best_by row_by better_by
  nothing-there e =
      let delta = change_of two in
      let none : (cut1 cut2 : ℕ) (best : Choice) → better_by delta (pass_by two) cut1 cut2 best ≡ best = λ cut1 cut2 best.
      sym (other _ _ _ _ (and_right (lt (delta cut1 cut2) best.delta) (pass_by two cut1 cut2) (and_right _ (has_price two) e)) refl) in
      let row : (cut1 : ℕ) (best : Choice) → row_by delta (pass_by two) (length two.other.now) cut1 best ≡ best = λ cut1 best.
      scan_same (better_by delta (pass_by two) cut1) (none cut1) (range 1 (suc (length two.other.now))) best in
      sym (scan_same (row_by delta (pass_by two) (length two.other.now)) row (range 1 (suc (length two.one.now))) (nothing two.terms.floor))

  pub first_unpriced : finite f.one.cost ≡ false → nothing two.terms.floor ≡ best_of two
  first_unpriced e =
      nothing-there (and_left (finite (cost_by two two.one.now)) (finite (cost_by two two.other.now)) (ap finite (sym costs.first_cost) ∙ e))

  pub second_unpriced : finite f.other.cost ≡ false → nothing two.terms.floor ≡ best_of two
  second_unpriced e =
      nothing-there (and_right (finite (cost_by two two.one.now)) (finite (cost_by two two.other.now)) (ap finite (sym costs.second_cost) ∙ e))
