-- One exchange more: each test that the code makes, in its order, is a part of the definition's one test. Assumes nothing.
use mathlib.Core.Path.{◌≡◌, refl, ap}
use mathlib.Core.Bool.{Bool, true, false}
use Prim.Native.Nat.{ℕ, ◌≤◌, ◌<◌}
use native.Mathlib.Omega.{arith}
use lib.Ieee.{Float, lt}
use Rattle.tests.specs.All.{and_left, and_right}
use Rattle.tests.specs.Pick.{picked, other}
use Rattle.descent.proofs.Members.{and_both}
use Rattle.tail_candidates.specs.Choice.{better_by}
use Rattle.tail_candidates.specs.declared.Choice.{Choice}

-- an exchange that doesn't pass, as a new list has no room
pub no_room : (pass : Bool) (load load' capacity : ℕ) → (pass ≡ true → load' ≤ capacity) → load ≡ load' → capacity < load → pass ≡ false
no_room true load load' capacity room e h = let fits = room refl in absurd (omega (arith, fits, e, h))
no_room false load load' capacity room e h = refl

module _ (delta : ℕ → ℕ → Float) (pass : ℕ → ℕ → Bool) (cut1 cut2 : ℕ) (best : Choice) where
  pub stays_out : pass cut1 cut2 ≡ false → best ≡ better_by delta pass cut1 cut2 best
  unfolding better_by
  stays_out h = other _ _ _ _ (and_right (lt (delta cut1 cut2) best.delta) (pass cut1 cut2) h) refl

  pub stays_delta : (d : Float) → d ≡ delta cut1 cut2 → lt d best.delta ≡ false → best ≡ better_by delta pass cut1 cut2 best
  unfolding better_by
  stays_delta d e h = other _ _ _ _ (and_left (lt (delta cut1 cut2) best.delta) (pass cut1 cut2) (rw e at h)) refl

  pub taken_up : (d : Float) → d ≡ delta cut1 cut2 → lt d best.delta ≡ true → pass cut1 cut2 ≡ true
      → record { cut1 = cut1; cut2 = cut2; delta = d } ≡ better_by delta pass cut1 cut2 best
  unfolding better_by
  taken_up d e h p =
      picked _ _ _ _ (and_both (lt (delta cut1 cut2) best.delta) (pass cut1 cut2) (rw e at h) p)
      (ap (λ (x : Float). record { cut1 = cut1; cut2 = cut2; delta = x }) e)
