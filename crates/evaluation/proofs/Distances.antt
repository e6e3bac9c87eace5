-- The visits behind a list's first, as a slice pattern has them, are the list without its first, and visits of the day with it. Assumes nothing.
use mathlib.Core.Path.{◌≡◌, refl}
use mathlib.Core.List.{List, [], ◌∷◌}
use Prim.Native.Nat.{ℕ, suc, ◌-◌, ◌<◌}
use native.Mathlib.Omega.{arith}
use lib.ListN.{length, get_or, drop, take}
use lib.Seq.{take-length, length-take-le}
use Rattle.labels.specs.Columns.{Visits}

-- what the pattern takes of the rest is all of it
pub others_are : (list : List ℕ) → take (length list - 1) (drop 1 list) ≡ drop 1 list
others_are [] = refl
others_are (visit ∷ rest) =
    let all : length (visit ∷ rest) - 1 ≡ length rest = omega arith in
    rw all (take-length rest)

-- each is a visit of the day
pub other-below : {l : ℕ} (list : List ℕ) (k : ℕ) → Visits l list → k < length (take (length list - 1) (drop 1 list))
    → get_or (take (length list - 1) (drop 1 list)) k 0 < l
other-below [] k visits h = absurd (omega (arith, h, length-take-le {A = ℕ} (0 - 1) []))
other-below (visit ∷ rest) k visits h =
    let there : k < length rest = rw (others_are (visit ∷ rest)) at h in
    rw (others_are (visit ∷ rest)) (visits.below (suc k) (omega arith))
