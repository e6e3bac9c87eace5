-- A delta with an infinite cost, or with one that is not below infinity, is below nothing. Assumes nothing.
use mathlib.Core.Path.{◌≡◌, refl}
use mathlib.Core.Bool.{true, false, true≢false}
use lib.Ieee.{Float, nan, inf, fin, add, sub, neg, lt}
use Rattle.numbers.specs.Operations.{◌⊕◌, ◌⊖◌}

-- infinity or no number
Lost : Float → Type 0
Lost x = lt x (inf false) ≡ false

-- nothing is above it
lost_below : (x d : Float) → lt x (inf false) ≡ false → lt x d ≡ false
unfolding lt
lost_below nan d h = refl
lost_below (inf true) d h = absurd (true≢false h)
lost_below (inf false) nan h = refl
lost_below (inf false) (inf t) h = refl
lost_below (inf false) (fin t n e) h = refl
lost_below (fin s m e) d h = absurd (true≢false h)

-- a sum with it is lost too
lost_add : (x y : Float) → lt x (inf false) ≡ false → lt (x ⊕ y) (inf false) ≡ false
unfolding lt add
lost_add nan y h = refl
lost_add (inf true) y h = absurd (true≢false h)
lost_add (inf false) nan h = refl
lost_add (inf false) (inf true) h = refl
lost_add (inf false) (inf false) h = refl
lost_add (inf false) (fin t n e) h = refl
lost_add (fin s m e) y h = absurd (true≢false h)

lost_sub : (x y : Float) → lt x (inf false) ≡ false → lt (x ⊖ y) (inf false) ≡ false
unfolding sub
lost_sub x y h = lost_add x (neg y) h

-- and a sum with infinity
add_lost : (x : Float) → lt (x ⊕ inf false) (inf false) ≡ false
unfolding lt add
add_lost nan = refl
add_lost (inf true) = refl
add_lost (inf false) = refl
add_lost (fin s m e) = refl

-- the first cost is not below infinity
pub first_lost : (x y before d : Float) → lt x (inf false) ≡ false → lt (x ⊕ y ⊖ before) d ≡ false
first_lost x y before d h = lost_below (x ⊕ y ⊖ before) d (lost_sub (x ⊕ y) before (lost_add x y h))

-- the second cost is infinite
pub second_lost : (x before d : Float) → lt (x ⊕ inf false ⊖ before) d ≡ false
second_lost x before d = lost_below (x ⊕ inf false ⊖ before) d (lost_sub (x ⊕ inf false) before (add_lost x))
