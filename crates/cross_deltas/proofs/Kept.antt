-- The better of two choices, and how many lists keep their numbers, by each side of their test. Assumes nothing.
use mathlib.Core.Path.{◌≡◌, refl, sym}
use mathlib.Core.Logic.{◌≢◌}
use mathlib.Core.Bool.{true, false}
use Prim.Native.Nat.{ℕ}
use borrow.Author.Tests.{eq-eqb, ne_eqb}
use lib.Dec.{eqb}
use lib.Ieee.{lt}
use Rattle.tests.specs.Pick.{picked, other}
use Rattle.cross_choices.specs.declared.Choice.{Choice}
use Rattle.cross_deltas.specs.Deltas.{joined, kept_of}

pub takes : (x y : Choice) → lt y.delta x.delta ≡ true → joined x y ≡ y
unfolding joined
takes x y e = sym (picked (lt y.delta x.delta) y x y e refl)

pub stays : (x y : Choice) → lt y.delta x.delta ≡ false → joined x y ≡ x
unfolding joined
stays x y e = sym (other (lt y.delta x.delta) y x x e refl)

pub kept_all : (n left : ℕ) → left ≡ n → n ≡ kept_of n left
unfolding kept_of
kept_all n left e = picked (eqb left n) n 0 n (eq-eqb left n e) refl

pub kept_none : (n left : ℕ) → left ≢ n → 0 ≡ kept_of n left
unfolding kept_of
kept_none n left e = other (eqb left n) n 0 0 (ne_eqb left n e) refl
