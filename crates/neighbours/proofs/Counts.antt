-- How many neighbours a pass tries on a list of n (02, F-6): descent has counted the same candidates. Assumes nothing.
use mathlib.Core.Path.{◌≡◌, refl, ap, ap₂, ◌∙◌}
use Prim.Native.Nat.{ℕ, ◌+◌, ◌-◌, ◌*◌, ◌/◌, ◌≤◌, ◌<◌}
use lib.ListN.{length, length-append}
use Rattle.descent.specs.Order.{range, each}
use Rattle.descent.specs.Within.{reversals, pieces, cuts}
use Rattle.descent.proofs.Counts.{length_mapped, two_opt_tries, or_opt_tries, three_opt-cuts, three_opt_few, three_opt_tries}
use Rattle.neighbours.specs.Neighbours.{reversal, relocation, reconnection, ways, to_the_end, neighbours}
use Rattle.neighbours.specs.Neighbours.{Reverse, Relocate, Reconnect}

-- '2-opt n(n-1)/2'
pub reverse_tries : (n : ℕ) → length (neighbours Reverse n) ≡ n * (n - 1) / 2
unfolding neighbours
reverse_tries n = length_mapped reversal (reversals n) ∙ two_opt_tries n

-- 'Or-opt the sum over piece lengths p of 1 to 3 below n of (n-p+1)(n-p)': a length that is not below n adds 0
pub relocate_tries : (n : ℕ) → length (neighbours Relocate n) ≡ (n - 1 + 1) * (n - 1) + ((n - 2 + 1) * (n - 2) + ((n - 3 + 1) * (n - 3) + 0))
unfolding neighbours
relocate_tries n =
    length_mapped relocation (each (range 1 4) (pieces to_the_end n))
    ∙ length-append (pieces to_the_end n 1) (each (range 2 4) (pieces to_the_end n))
    ∙ ap₂ (λ (a b : ℕ). a + b) (or_opt_tries n 1)
    (length-append (pieces to_the_end n 2) (each (range 3 4) (pieces to_the_end n))
    ∙ ap₂ (λ (a b : ℕ). a + b) (or_opt_tries n 2)
    (length-append (pieces to_the_end n 3) (each (range 4 4) (pieces to_the_end n)) ∙ ap (λ (a : ℕ). a + 0) (or_opt_tries n 3)))

-- '3-opt seven times n(n-1)(n-2)/6, and 0 for n below 4'
pub reconnect_tries : (n : ℕ) → 4 ≤ n → length (neighbours Reconnect n) ≡ 7 * (n * (n - 1) * (n - 2) / 6)
unfolding neighbours
reconnect_tries n h = length_mapped reconnection (each (cuts n) ways) ∙ three_opt_tries n ∙ ap (λ (k : ℕ). 7 * k) (three_opt-cuts n h)

pub reconnect_few : (n : ℕ) → n < 4 → length (neighbours Reconnect n) ≡ 0
unfolding neighbours
reconnect_few n h = length_mapped reconnection (each (cuts n) ways) ∙ three_opt_tries n ∙ ap (λ (k : ℕ). 7 * k) (three_opt_few n h)

-- 'For n = 4 these are 6, 20 and 28'
pub four : (length (neighbours Reverse 4) ≡ 6) × (length (neighbours Relocate 4) ≡ 20) × (length (neighbours Reconnect 4) ≡ 28)
unfolding neighbours
four = (refl, refl, refl)
