-- What stands at the ends of a list's pieces, by position. Assumes nothing.
use mathlib.Core.Path.{◌≡◌, refl, ◌∙◌}
use mathlib.Core.List.{List, [], ◌∷◌}
use Prim.Native.Nat.{ℕ, zero, suc, ◌≤◌, ◌<◌}
use native.Mathlib.Omega.{arith}
use lib.ListN.{length, get_or, take, drop}
use lib.Seq.{slice, take-suc, drop-cons, slice-cons, length-take-le}
use Rattle.descent.proofs.Walk.{first, end, end_append}

pub end_take : (z q : ℕ) (xs : List ℕ) (i : ℕ) → i < length xs → end z (take (suc i) xs) ≡ get_or xs i q
end_take z q xs i h = rw (take-suc xs i q h, end_append)

pub first-drop : (z q : ℕ) (xs : List ℕ) (i : ℕ) → i < length xs → first z (drop i xs) ≡ get_or xs i q
first-drop z q xs i h = rw (drop-cons xs i q h)

pub first-drop_out : (z : ℕ) (xs : List ℕ) (i : ℕ) → length xs ≤ i → first z (drop i xs) ≡ z
first-drop_out z [] zero h = refl
first-drop_out z [] (suc i) h = refl
first-drop_out z (x ∷ xs) zero h = absurd (omega arith)
first-drop_out z (x ∷ xs) (suc i) h = first-drop_out z xs i (omega arith)

pub first-slice : (z q : ℕ) (xs : List ℕ) (i e : ℕ) → i < e → e ≤ length xs → first z (slice i e xs) ≡ get_or xs i q
first-slice z q xs i e h k = rw (slice-cons i e xs q h k)

pub end-drop : (z : ℕ) (i : ℕ) (xs : List ℕ) → i < length xs → end z (drop i xs) ≡ end z xs
end-drop z zero xs h = refl
end-drop z (suc i) [] h = absurd (omega arith)
end-drop z (suc i) (x ∷ []) h = absurd (omega arith)
end-drop z (suc i) (x ∷ y ∷ xs) h = end-drop z i (y ∷ xs) (omega arith)

pub end-slice : (z q : ℕ) (xs : List ℕ) (i j : ℕ) → i ≤ j → j < length xs → end z (slice i (suc j) xs) ≡ get_or xs j q
end-slice z q xs i j h k =
    let long : i < length (take (suc j) xs) = rw (length-take-le (suc j) xs k) (omega arith) in
    end-drop z i (take (suc j) xs) long ∙ end_take z q xs j k

-- the stop before position i, in the list with the depot in front; and the stop at position i, the depot behind the last
pub end_at : (z : ℕ) (xs : List ℕ) (i : ℕ) → i ≤ length xs → end z (take i xs) ≡ get_or (z ∷ xs) i z
end_at z xs zero h = refl
end_at z xs (suc i) h = end_take z z xs i h

pub first_at : (z : ℕ) (xs : List ℕ) (i : ℕ) → first z (drop i xs) ≡ get_or xs i z
first_at z [] zero = refl
first_at z [] (suc i) = refl
first_at z (x ∷ xs) zero = refl
first_at z (x ∷ xs) (suc i) = first_at z xs i

pub end-slice_at : (z : ℕ) (xs : List ℕ) (i e : ℕ) → i < e → e ≤ length xs → end z (slice i e xs) ≡ get_or (z ∷ xs) e z
end-slice_at z xs i zero h k = absurd (omega arith)
end-slice_at z xs i (suc j) h k = end-slice z z xs i j (omega arith) k
