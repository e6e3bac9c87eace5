-- A scan takes the first least of the candidates that count and pass: the best so far starts at minus the floor, so that one test, 'below the best so
-- far', is 'counts' for the first and, since < is transitive, 'counts and is less' for the others. And a scan goes on where another ended. Assumes nothing.
use mathlib.Core.Path.{◌≡◌, refl, sym, ap, ◌∙◌}
use mathlib.Core.Bool.{Bool, true, false, ◌&&◌}
use mathlib.Core.Option.{Option, none, some}
use mathlib.Core.List.{List, [], ◌∷◌, ◌++◌}
use lib.Ieee.{Float, lt}
use Rattle.numbers.proofs.Total.{lt_trans}
use Rattle.tests.specs.All.{and_right}
use Rattle.descent.specs.Order.{◌∈◌, here, there}
use Rattle.descent.specs.Search.{least, first_least}
use Rattle.descent.specs.Scan.{chosen, may, less, onward, figure, Counted}
use Rattle.descent.proofs.Members.{T_true, true-T, and_parts, and_both}
use Rattle.descent.proofs.Loops.{least_append, least_better, least_stays, first_found, first_passed}

-- ---- part by part: what is chosen from some candidates is the best so far for the rest

module _ {C : Type 0} (may : C → Bool) (less : C → C → Bool) where
  pub chosen_append : (o : Option C) (cs ds : List C) → chosen may less o (cs ++ ds) ≡ chosen may less (chosen may less o cs) ds
  unfolding chosen first_least
  chosen_append none [] ds = refl
  chosen_append none (c ∷ cs) ds = go (may c) (chosen_append none cs ds)
    where
      go : (b : Bool) → first_least may less (cs ++ ds) ≡ chosen may less (first_least may less cs) ds
          → elim b [ true ↦ some (least may less c (cs ++ ds)) | false ↦ first_least may less (cs ++ ds) ]
          ≡ chosen may less (elim b [ true ↦ some (least may less c cs) | false ↦ first_least may less cs ]) ds
      go true ih = ap some (least_append may less c cs ds)
      go false ih = ih
  chosen_append (some best) cs ds = ap some (least_append may less best cs ds)

  pub chosen_none : (o : Option C) → chosen may less o [] ≡ o
  unfolding chosen first_least least
  chosen_none none = refl
  chosen_none (some best) = refl

-- ---- one test

neither : (p q r : Bool) → (r && q) ≡ false → ((p && q) && r) ≡ false
neither true true true e = e
neither true true false e = refl
neither true false r e = refl
neither false q r e = refl

module _ {C : Type 0} (delta : C → Float) (pass : C → Bool) (bound : Float) where
  -- below the best so far is below the bound
  pub counts_too : (o : Option C) (c : C) → Counted delta pass bound o → lt (delta c) (figure delta pass bound o) ≡ true → lt (delta c) bound ≡ true
  unfolding figure Counted
  counts_too none c u e = e
  counts_too (some best) c u e =
      T_true (lt (delta c) bound) (lt_trans (delta c) (delta best) bound (true-T (lt (delta c) (delta best)) e) (true-T (lt (delta best) bound) u))

  pub onward_better : (o : Option C) (c : C) (cs : List C) → Counted delta pass bound o → (lt (delta c) (figure delta pass bound o) && pass c) ≡ true
      → onward delta pass bound o (c ∷ cs) ≡ onward delta pass bound (some c) cs
  unfolding onward chosen figure Counted
  onward_better none c cs u e = first_found (may delta pass bound) (less delta pass bound) c cs e
  onward_better (some best) c cs u e =
      let t = and_parts (lt (delta c) (delta best)) (pass c) e in
      let counts : lt (delta c) bound ≡ true = counts_too (some best) c u t.0 in
      ap some (least_better (may delta pass bound) (less delta pass bound) best c cs
      (and_both (may delta pass bound c) (less delta pass bound c best) (and_both (lt (delta c) bound) (pass c) counts t.1) t.0))

  pub counted_better : (o : Option C) (c : C) → Counted delta pass bound o → (lt (delta c) (figure delta pass bound o) && pass c) ≡ true
      → Counted delta pass bound (some c)
  unfolding Counted
  counted_better o c u e = counts_too o c u (and_parts (lt (delta c) (figure delta pass bound o)) (pass c) e).0

  pub onward_stays : (o : Option C) (c : C) (cs : List C) → (lt (delta c) (figure delta pass bound o) && pass c) ≡ false
      → onward delta pass bound o (c ∷ cs) ≡ onward delta pass bound o cs
  unfolding onward chosen figure
  onward_stays none c cs e = first_passed (may delta pass bound) (less delta pass bound) c cs e
  onward_stays (some best) c cs e =
      ap some (least_stays (may delta pass bound) (less delta pass bound) best c cs
      (neither (lt (delta c) bound) (pass c) (less delta pass bound c best) e))

  pub onward_end : (o : Option C) → onward delta pass bound o [] ≡ o
  unfolding onward
  onward_end o = chosen_none (may delta pass bound) (less delta pass bound) o

  -- one scan after another is the scan of both
  pub onward_append : (o : Option C) (cs ds : List C) → onward delta pass bound (onward delta pass bound o cs) ds ≡ onward delta pass bound o (cs ++ ds)
  unfolding onward
  onward_append o cs ds = sym (chosen_append (may delta pass bound) (less delta pass bound) o cs ds)

  -- candidates that don't pass change nothing
  pub onward-none : (o : Option C) (cs : List C) → ((c : C) → c ∈ cs → pass c ≡ false) → onward delta pass bound o cs ≡ o
  onward-none o [] h = onward_end o
  onward-none o (c ∷ cs) h =
      onward_stays o c cs (and_right (lt (delta c) (figure delta pass bound o)) (pass c) (h c here)) ∙ onward-none o cs (λ d i. h d (there i))
