-- The words of std for a scan over the flags are the definitions' own: both go down the list in the same way.
use Rattle.std.proofs.Common.{◌≡◌, List, [], ◌∷◌, ℕ, Bool, cond, ◌||◌, refl, ap, arith}
use Rattle.std.specs.List.{list_any, prefix_len}
use Rattle.day.specs.Day.{bit0}
use Rattle.day.specs.Customer.{some_of, leading}

pub any_is_some : (test : ℕ → Bool) (flags : List ℕ) → list_any test flags ≡ some_of test flags
unfolding some_of
any_is_some test [] = refl
any_is_some test (f ∷ fs) = ap (λ (b : Bool). test f || b) (any_is_some test fs)

pub prefix_is_leading : (flags : List ℕ) → prefix_len bit0 flags ≡ leading flags
unfolding leading
prefix_is_leading [] = refl
prefix_is_leading (f ∷ fs) = ap (λ (n : ℕ). cond (bit0 f) n 0) (omega (arith, prefix_is_leading fs))
