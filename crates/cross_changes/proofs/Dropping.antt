-- The entries of empty lists dropped from a column, in place: the first i are packed already, behind them come as many `none` as were dropped, and then the
-- entries still to come. Assumes nothing.
use mathlib.Core.Path.{◌≡◌, refl, sym, ap, ◌∙◌}
use mathlib.Core.Logic.{◌≢◌}
use mathlib.Core.List.{List, [], ◌∷◌, ◌++◌, append_assoc, append-nil}
use Prim.Native.Nat.{ℕ, zero, suc, ◌+◌, ◌-◌, ◌≤◌, ◌<◌}
use native.Mathlib.Numerals.{add-one}
use native.Mathlib.Omega.{arith}
use lib.ListN.{length, get_or, set, take, drop, replicate, length-append, length-replicate, length-set}
use lib.Seq.{take-suc, drop-cons, set_at, take_at, drop_at, take-length, drop-length, append_snoc, set-append_seam, get_or_at, length-take-le}
use Rattle.list_changes.specs.Edits.{nonzero}
use Rattle.cross_moves.specs.CrossDepot.{of_filled}
use Rattle.cross_changes.specs.Tables.{packed_by, kept_if}

-- ---- a list that is empty, and one that isn't

module _ {A : Type 0} (none x : A) where
  pub kept_none : (n : ℕ) → n ≡ 0 → none ≡ kept_if none n x
  unfolding kept_if
  kept_none n e = rw e

  pub kept_one : (n : ℕ) → n ≢ 0 → x ≡ kept_if none n x
  unfolding kept_if
  kept_one zero h = absurd (h refl)
  kept_one (suc n) h = refl

-- ---- the entries that are kept

-- so many as there are lengths that aren't 0
pub length-filled : {A : Type 0} (lengths : List ℕ) (xs : List A) → length xs ≡ length lengths → length (of_filled lengths xs) ≡ length (nonzero lengths)
unfolding of_filled nonzero
length-filled [] xs e = refl
length-filled (n ∷ lengths) [] e = absurd (omega arith)
length-filled (zero ∷ lengths) (x ∷ xs) e = length-filled lengths xs (omega arith)
length-filled (suc n ∷ lengths) (x ∷ xs) e = ap suc (length-filled lengths xs (omega arith))

filled_le : {A : Type 0} (lengths : List ℕ) (xs : List A) → length (of_filled lengths xs) ≤ length xs
unfolding of_filled
filled_le [] xs = omega arith
filled_le (n ∷ lengths) [] = omega arith
filled_le (zero ∷ lengths) (x ∷ xs) = let rest = filled_le lengths xs in omega arith
filled_le (suc n ∷ lengths) (x ∷ xs) = let rest = filled_le lengths xs in omega arith

filled_snoc : {A : Type 0} (ms : List ℕ) (xs : List A) (n : ℕ) (x : A) → length xs ≡ length ms
    → of_filled (ms ++ n ∷ []) (xs ++ x ∷ []) ≡ of_filled ms xs ++ of_filled (n ∷ []) (x ∷ [])
unfolding of_filled
filled_snoc [] [] n x e = refl
filled_snoc [] (y ∷ xs) n x e = absurd (omega arith)
filled_snoc (m ∷ ms) [] n x e = absurd (omega arith)
filled_snoc (zero ∷ ms) (y ∷ xs) n x e = filled_snoc ms xs n x (omega arith)
filled_snoc (suc m ∷ ms) (y ∷ xs) n x e = ap (λ z. y ∷ z) (filled_snoc ms xs n x (omega arith))

length_one : {A : Type 0} (n : ℕ) (x : A) → length (of_filled (n ∷ []) (x ∷ [])) ≡ length (nonzero (n ∷ []))
unfolding of_filled nonzero
length_one zero x = refl
length_one (suc n) x = refl

-- ---- one turn of the loop

module _ {A : Type 0} (none : A) where
  -- the column with the entries of the first i lists packed
  unfoldable pub packed_to : ℕ → List ℕ → List A → List A
  packed_to i lengths xs =
      of_filled (take i lengths) (take i xs) ++ (replicate (i - length (of_filled (take i lengths) (take i xs))) none ++ drop i xs)

  packed_start : (lengths : List ℕ) (xs : List A) → xs ≡ packed_to 0 lengths xs
  unfolding packed_to of_filled
  packed_start lengths xs = refl

  packed_all : (lengths : List ℕ) (xs : List A) → length xs ≡ length lengths → packed_to (length xs) lengths xs ≡ packed_by none lengths xs
  unfolding packed_to packed_by
  packed_all lengths xs e =
      let whole : take (length xs) lengths ≡ lengths = rw e (take-length lengths) in
      rw (whole, take-length xs, drop-length xs, append-nil)

  nones_first : (k : ℕ) (rest : List A) → replicate k none ++ none ∷ rest ≡ none ∷ (replicate k none ++ rest)
  nones_first zero rest = refl
  nones_first (suc k) rest = ap (λ z. none ∷ z) (nones_first k rest)

  -- `none` at the seam, and an entry behind those that are packed already
  stored : (P : List A) (i k : ℕ) (x y : A) (rest : List A) → length P + k ≡ i
      → set (set (P ++ (replicate k none ++ x ∷ rest)) i none) (length P) y ≡ P ++ y ∷ (replicate k none ++ rest)
  stored P i k x y rest e =
      let long : length (P ++ replicate k none) ≡ i = simp (length-append, length-replicate) e in
      rw (← append_assoc P (replicate k none) (x ∷ rest), set_at (P ++ replicate k none) x rest none i long, append_assoc, nones_first)
      (set-append_seam P none (replicate k none ++ rest) y)

  -- it counts as packed where its list has a visit, and else as one more `none`
  counted_on : (P : List A) (i k n : ℕ) (x : A) (rest : List A) → length P + k ≡ i
      → P ++ kept_if none n x ∷ (replicate k none ++ rest)
      ≡ P ++ of_filled (n ∷ []) (x ∷ []) ++ (replicate (suc i - length (P ++ of_filled (n ∷ []) (x ∷ []))) none ++ rest)
  unfolding of_filled kept_if
  counted_on P i k zero x rest e = let more : suc i - length P ≡ suc k = omega arith in rw (append-nil P, more)
  counted_on P i k (suc n) x rest e =
      let more : suc i - length (P ++ x ∷ []) ≡ k = rw length-append (omega arith) in
      rw (more, append_snoc P x (replicate k none ++ rest))

  module _ (lengths : List ℕ) (xs : List A) (d : A) (i : ℕ) (there : i < length xs) (even : length xs ≡ length lengths) where
    behind : length (of_filled (take i lengths) (take i xs)) + (i - length (of_filled (take i lengths) (take i xs))) ≡ i
    behind = omega (arith, filled_le (take i lengths) (take i xs), length-take-le i xs (omega arith))

    more_filled : of_filled (take (i + 1) lengths) (take (i + 1) xs)
        ≡ of_filled (take i lengths) (take i xs) ++ of_filled (get_or lengths i 0 ∷ []) (get_or xs i d ∷ [])
    more_filled =
        let also : i < length lengths = omega arith in
        let long : length (take i xs) ≡ length (take i lengths) = rw (length-take-le i xs (omega arith), length-take-le i lengths (omega arith)) in
        rw (add-one i, take-suc lengths i 0 also, take-suc xs i d there) (filled_snoc (take i lengths) (take i xs) (get_or lengths i 0) (get_or xs i d) long)

    packed-at : get_or (packed_to i lengths xs) i d ≡ get_or xs i d
    unfolding packed_to
    packed-at =
        let P = of_filled (take i lengths) (take i xs) in
        let long : length (P ++ replicate (i - length P) none) ≡ i = simp (length-append, length-replicate) behind in
        rw (
          drop-cons xs i d there,
          ← append_assoc P (replicate (i - length P) none) (get_or xs i d ∷ drop (suc i) xs),
          get_or_at (P ++ replicate (i - length P) none) (get_or xs i d) (drop (suc i) xs) d i long,
        )

    packed_more : set (set (packed_to i lengths xs) i none) (length (of_filled (take i lengths) (take i xs))) (kept_if none (get_or lengths i 0) (get_or xs i d))
        ≡ packed_to (i + 1) lengths xs
    unfolding packed_to
    packed_more =
        let P = of_filled (take i lengths) (take i xs) in
        rw (more_filled, add-one i, drop-cons xs i d there)
        (stored P i _ (get_or xs i d) _ (drop (suc i) xs) behind ∙ counted_on P i _ (get_or lengths i 0) (get_or xs i d) (drop (suc i) xs) behind)

    count_more : length (of_filled (take i lengths) (take i xs)) + length (nonzero (get_or lengths i 0 ∷ [])) ≡ length (of_filled (take (i + 1) lengths) (take (i + 1) xs))
    count_more = rw (more_filled, length-append, length_one)

  -- where the loop stands: the first i entries of xs are packed, and `kept` of them are kept
  pub record Packing (lengths : List ℕ) (xs now : List A) (kept i : ℕ) : Type 0 where
    pub reached : i ≤ length xs
    pub kept_below : kept ≤ i
    pub same_length : length now ≡ length xs
    pub kept_is : kept ≡ length (of_filled (take i lengths) (take i xs))
    pub now_is : now ≡ packed_to i lengths xs

  pub packing_starts : (lengths : List ℕ) (xs : List A) → Packing lengths xs xs 0 0
  unfolding of_filled
  packing_starts lengths xs = record { reached = omega arith; kept_below = omega arith; same_length = refl; kept_is = refl; now_is = packed_start lengths xs }

  pub packing_turns : (lengths : List ℕ) (xs now : List A) (d : A) (kept i more : ℕ) (y : A) → Packing lengths xs now kept i → length xs ≡ length lengths
      → i < length lengths → y ≡ kept_if none (get_or lengths i 0) (get_or now i d) → more ≡ length (nonzero (get_or lengths i 0 ∷ []))
      → Packing lengths xs (set (set now i none) kept y) (kept + more) (i + 1)
  packing_turns lengths xs now d kept i more y p even h is_y is-more =
      let there : i < length xs = omega arith in
      let here : get_or now i d ≡ get_or xs i d = rw p.now_is (packed-at lengths xs d i there even) in
      let count : kept + more ≡ length (of_filled (take (i + 1) lengths) (take (i + 1) xs)) = rw (p.kept_is, is-more) (count_more lengths xs d i there even) in
      record {
        reached = omega arith;
        kept_below = omega (arith, count, filled_le (take (i + 1) lengths) (take (i + 1) xs), length-take-le (i + 1) xs (omega arith));
        same_length = simp length-set p.same_length;
        kept_is = count;
        now_is = rw (is_y, here, p.kept_is, p.now_is) (packed_more lengths xs d i there even);
      }

  pub packing_ends : (lengths : List ℕ) (xs now : List A) (kept i : ℕ) → Packing lengths xs now kept i → length xs ≡ length lengths → length lengths ≤ i
      → now ≡ packed_by none lengths xs
  packing_ends lengths xs now kept i p even h =
      let all : i ≡ length xs = omega (arith, p.reached) in
      p.now_is ∙ ap (λ k. packed_to k lengths xs) all ∙ packed_all lengths xs even

  -- ---- what the column holds then

  module _ (lengths : List ℕ) (xs : List A) (kept : ℕ) (is : kept ≡ length (of_filled lengths xs)) where
    unpacked : drop (length (of_filled lengths xs)) (packed_by none lengths xs) ≡ replicate (length xs - length (of_filled lengths xs)) none
    unfolding packed_by
    unpacked = drop_at (of_filled lengths xs) _ (length (of_filled lengths xs)) refl

    pub packed_front : take kept (packed_by none lengths xs) ≡ of_filled lengths xs
    unfolding packed_by
    packed_front = take_at (of_filled lengths xs) _ kept (sym is)

    pub length-packed : length (packed_by none lengths xs) ≡ length xs
    unfolding packed_by
    length-packed = simp (length-append, length-replicate) (omega (arith, filled_le lengths xs))

    pub packed_back : drop kept (packed_by none lengths xs) ≡ replicate (length (packed_by none lengths xs) - kept) none
    packed_back = rw (length-packed, is) unpacked
