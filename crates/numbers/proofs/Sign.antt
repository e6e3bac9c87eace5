-- The sum, the product and the quotient of sign-clear numbers is sign-clear, and so is a difference not below zero: no sum of distances is -0.
-- It is because `round` keeps the sign that it is given, and a sum that is exactly zero has its sign set only where both summands have.
use mathlib.Core.Path.{◌≡◌, refl}
use mathlib.Core.Bool.{Bool, true, false, cond}
use mathlib.Core.List.{List, [], ◌∷◌}
use Prim.Native.Nat.{ℕ, zero, suc, ◌+◌, ◌-◌, ◌*◌, ◌^◌, ◌≤◌}
use native.Mathlib.Nat.{lt_irrefl}
use native.Mathlib.Omega.{arith}
use borrow.Author.Tests.{le-ltb}
use lib.Dec.{T, ltb, eqb-suc-zero, leb→le, ltb→lt}
use lib.Ieee.{Float, of_bits, nan, inf, fin, Format, binary64, prec, emax, low, up, down, neg, is_nan, le, odd, units, round, sum, add, sub, mul, div}
use lib.Ieee.Scale.{finite}
use lib.Ieee.Fits.{and_l, and_r}
use lib.Ieee.Positive.{positive}
use Rattle.numbers.specs.Value.{nought, ordered, clear, less}
use Rattle.numbers.specs.Total.{every, total}
use Rattle.numbers.proofs.Order.{le_parts}

pub clear-ordered : (x : Float) → T (clear x) → T (ordered x)
unfolding is_nan
clear-ordered nan h = h
clear-ordered (inf s) h = tt
clear-ordered (fin s m e) h = tt

pub nought-clear : T (clear nought)
unfolding of_bits
nought-clear = tt

pub clear-less : (x : Float) → T (clear x) → less x ≡ 0
clear-less nan h = refl
clear-less (inf s) h = refl
clear-less (fin false m e) h = refl
clear-less (fin true m e) h = absurd h

-- ---- `round` with the sign clear gives a clear sign
odd-clear : (d q k l : ℕ) → T (clear (odd d false q k l))
unfolding odd
odd-clear d zero k l = tt
odd-clear d (suc q) k l = tt

units-clear : (f : Format) (q k : ℕ) → T (clear (units f false q k))
unfolding units
units-clear f q k = go (ltb (q * 2 ^ k) (2 ^ (low f + suc (emax f))))
  where
    go : (b : Bool) → T (clear (cond b (odd (suc (prec f)) false q k (low f)) (inf false)))
    go true = odd-clear (suc (prec f)) q k (low f)
    go false = tt

pub round-clear : (f : Format) (a c : ℕ) → T (clear (round f false a c))
unfolding round
round-clear f a c = units-clear f _ _

-- ---- with the sign set it is the negation of that
odd-neg : (d q k l : ℕ) → odd d true q k l ≡ neg (odd d false q k l)
unfolding odd neg
odd-neg d zero k l = refl
odd-neg d (suc q) k l = refl

units-neg : (f : Format) (q k : ℕ) → units f true q k ≡ neg (units f false q k)
unfolding units neg
units-neg f q k = go (ltb (q * 2 ^ k) (2 ^ (low f + suc (emax f))))
  where
    go : (b : Bool) → cond b (odd (suc (prec f)) true q k (low f)) (inf true) ≡ neg (cond b (odd (suc (prec f)) false q k (low f)) (inf false))
    go true = odd-neg (suc (prec f)) q k (low f)
    go false = refl

pub round-neg : (f : Format) (a c : ℕ) → round f true a c ≡ neg (round f false a c)
unfolding round
round-neg f a c = units-neg f _ _

-- ---- sums, and differences that are not below zero
pub add-clear : (f : Format) (x y : Float) → T (clear x) → T (clear y) → T (clear (add f x y))
unfolding add sum
add-clear f nan y h k = h
add-clear f (inf true) y h k = absurd h
add-clear f (inf false) nan h k = k
add-clear f (inf false) (inf true) h k = absurd k
add-clear f (inf false) (inf false) h k = tt
add-clear f (inf false) (fin t n d) h k = tt
add-clear f (fin true m e) y h k = absurd h
add-clear f (fin false m e) nan h k = k
add-clear f (fin false m e) (inf t) h k = k
add-clear f (fin false m e) (fin true n d) h k = absurd k
add-clear f (fin false m e) (fin false n d) h k = round-clear f (m * up e * down d + n * up d * down e) (down e * down d)

pub total-clear : (xs : List Float) (z : Float) → T (clear z) → T (every clear xs) → T (clear (total z xs))
unfolding total every
total-clear [] z h k = h
total-clear (x ∷ xs) z h k =
    total-clear xs (add binary64 z x) (add-clear binary64 z x h (and_l (clear x) (every clear xs) k)) (and_r (clear x) (every clear xs) k)

difference_clear : (f : Format) (a b c : ℕ) → b ≤ a → T (clear (sum f false a true b c))
unfolding sum
difference_clear f a b c h = rw (le-ltb a b h) (round-clear f (a - b) c)

pub sub-clear : (f : Format) (x y : Float) → T (finite y) → T (clear x) → T (clear y) → T (le y x) → T (clear (sub f x y))
unfolding sub add neg
sub-clear f nan y g h k l = absurd h
sub-clear f (inf true) y g h k l = absurd h
sub-clear f (inf false) nan g h k l = absurd g
sub-clear f (inf false) (inf t) g h k l = absurd g
sub-clear f (inf false) (fin t n d) g h k l = tt
sub-clear f (fin true m e) y g h k l = absurd h
sub-clear f (fin false m e) nan g h k l = absurd g
sub-clear f (fin false m e) (inf t) g h k l = absurd g
sub-clear f (fin false m e) (fin true n d) g h k l = absurd k
sub-clear f (fin false m e) (fin false n d) g h k l =
    let w = leb→le (n * up d * down e + 0 * down d) (m * up e * down d + 0 * down e) (rw (le_parts (fin false n d) (fin false m e) tt tt) at l) in
    difference_clear f (m * up e * down d) (n * up d * down e) (down e * down d) (omega arith)

-- ---- products and quotients
pub mul-clear : (f : Format) (x y : Float) → T (finite x) → T (finite y) → T (clear x) → T (clear y) → T (clear (mul f x y))
unfolding mul
mul-clear f nan y p q h k = absurd p
mul-clear f (inf s) y p q h k = absurd p
mul-clear f (fin s m e) nan p q h k = absurd q
mul-clear f (fin s m e) (inf t) p q h k = absurd q
mul-clear f (fin true m e) (fin t n d) p q h k = absurd h
mul-clear f (fin false m e) (fin true n d) p q h k = absurd k
mul-clear f (fin false m e) (fin false n d) p q h k = round-clear f (m * up e * (n * up d)) (down e * down d)

pub div-clear : (f : Format) (x y : Float) → T (finite x) → T (clear x) → T (positive y) → T (clear (div f x y))
unfolding div
div-clear f nan y p h q = absurd p
div-clear f (inf s) y p h q = absurd p
div-clear f (fin true m e) y p h q = absurd h
div-clear f (fin false m e) nan p h q = absurd q
div-clear f (fin false m e) (inf t) p h q = absurd q
div-clear f (fin false m e) (fin true n d) p h q = absurd q
div-clear f (fin false m e) (fin false zero d) p h q = absurd (lt_irrefl 0 (ltb→lt 0 0 q))
div-clear f (fin false m e) (fin false (suc n) d) p h q = rw (eqb-suc-zero n) (round-clear f (m * up e * down d) (suc n * up d * down e))
