-- A list is the pieces that it is cut into. Assumes nothing.
use mathlib.Core.Path.{◌≡◌, sym, ap, ◌∙◌}
use mathlib.Core.List.{List, [], ◌∷◌, ◌++◌, append_assoc}
use Prim.Native.Nat.{ℕ, zero, suc, ◌-◌, ◌≤◌}
use native.Mathlib.Omega.{arith}
use native.Mathlib.Nat.{sub-zero, suc-sub-suc, le_of_suc-le-suc, not-suc-le-zero}
use lib.ListN.{length, take, drop, take-append-drop}
use lib.Seq.{slice, take-take, take-nil, take-length}
use borrow.Rule.Slice.PartMut.{put_mid, Post-is}

module _ (xs : List ℕ) where
  -- cut at i and at e
  pub cut : (i e : ℕ) → i ≤ e → take i xs ++ slice i e xs ++ drop e xs ≡ xs
  cut i e h = rw (← (take-take i e xs h), take-append-drop i (take e xs), take-append-drop e xs)

  -- cut at i, j and e
  pub cut4 : (i j e : ℕ) → i ≤ j → j ≤ e → take i xs ++ slice i j xs ++ slice j e xs ++ drop e xs ≡ xs
  cut4 i j e h k = rw (← (take-take i j xs h), take-append-drop i (take j xs), cut j e k)

  -- cut at i, j, k and e
  pub cut5 : (i j k e : ℕ) → i ≤ j → j ≤ k → k ≤ e → take i xs ++ slice i j xs ++ slice j k xs ++ slice k e xs ++ drop e xs ≡ xs
  cut5 i j k e h₁ h₂ h₃ = rw (← (take-take i j xs h₁), take-append-drop i (take j xs), cut4 j k e h₂ h₃)

-- the stretch up to the list's end
pub to_end : (i : ℕ) (xs : List ℕ) → slice i (length xs) xs ≡ drop i xs
to_end i xs = ap (drop i) (take-length xs)

-- a part that is lent, `&xs[i..e]`, as the borrow checker reads it
pub lent : (i e : ℕ) (xs : List ℕ) → i ≤ e → take (e - i) (drop i xs) ≡ slice i e xs
lent zero e xs h = ap (λ (n : ℕ). take n xs) (sub-zero e)
lent (suc i) zero xs h = absurd (not-suc-le-zero h)
lent (suc i) (suc e) [] h = take-nil (suc e - suc i)
lent (suc i) (suc e) (x ∷ xs) h = ap (λ (n : ℕ). take n (drop i xs)) (suc-sub-suc e i) ∙ lent i e xs (le_of_suc-le-suc h)

-- a part that is put back, after `&mut xs[i..e]`
pub put_back : (i e : ℕ) (xs ys : List ℕ) → i ≤ e → put_mid i (e - i) xs ys ≡ take i xs ++ ys ++ drop e xs
put_back i e xs ys h = rw (Post-is i e xs h) (sym (append_assoc (take i xs) ys (drop e xs)))

-- a buffer's front, lent
pub front : (end : ℕ) (buffer ys : List ℕ) → take end buffer ≡ ys → take (end - 0) (drop 0 buffer) ≡ ys
front end buffer ys e = lent 0 end buffer (omega arith) ∙ e
