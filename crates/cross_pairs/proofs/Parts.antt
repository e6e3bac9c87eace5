-- A table lent in two parts of n entries, the first half and then the second: as many entries as are lent, and each part holds what was written there. Assumes nothing.
use mathlib.Core.Path.{◌≡◌, ap, ◌∙◌}
use mathlib.Core.List.{List, ◌++◌}
use Prim.Native.Nat.{ℕ, ◌+◌, ◌≤◌}
use native.Mathlib.Omega.{arith}
use borrow.Rule.Slice.PartMut.{put_mid, post_of, take_put}
use lib.ListN.{length, take, drop, length-append, length-drop}
use lib.Seq.{take_at, drop_at, length-take-le}

-- a table written in two parts of n entries, and each part read again
module _ {A : Type 0} (n : ℕ) (xs first second : List A) (few : n + n ≤ length xs) where
  -- as many as are lent
  pub lent_long : length (take n xs) ≡ n
  lent_long = length-take-le n xs (omega (arith, few))

  pub lent_long2 : length first ≡ n → length (take n (drop n (put_mid 0 n xs first))) ≡ n
  lent_long2 long =
      ap (λ (ys : List A). length (take n ys)) (drop_at first (post_of 0 n xs) n long)
      ∙ length-take-le n (post_of 0 n xs) (omega (arith, length-drop n xs, few))

  module _ (long1 : length first ≡ n) (long2 : length second ≡ n) where
    first_long : n ≤ length (put_mid 0 n xs first)
    first_long = simp length-append (omega (arith, long1))

    pub first_part : take n (put_mid n n (put_mid 0 n xs first) second) ≡ first
    first_part = take_put n n (put_mid 0 n xs first) second first_long ∙ take_at first (post_of 0 n xs) n long1

    pub second_part : take n (drop n (put_mid n n (put_mid 0 n xs first) second)) ≡ second
    second_part =
        ap (take n) (drop_at (take n (put_mid 0 n xs first)) (second ++ post_of n n (put_mid 0 n xs first)) n
        (length-take-le n (put_mid 0 n xs first) first_long))
        ∙ take_at second (post_of n n (put_mid 0 n xs first)) n long2
