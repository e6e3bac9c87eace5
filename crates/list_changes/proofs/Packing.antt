-- Empty lists dropped: the tables then hold the filled lists, and behind them empty ones; and one turn of the loop that packs the lengths.
-- The visits stay as they are, since an empty list has none. Assumes nothing.
use mathlib.Core.Path.{◌≡◌, refl, sym, ap, ◌∙◌}
use mathlib.Core.Logic.{◌≢◌}
use mathlib.Core.List.{List, [], ◌∷◌, ◌++◌, append_assoc, append-nil}
use Prim.Native.Nat.{ℕ, zero, suc, ◌+◌, ◌-◌, ◌≤◌, ◌<◌}
use native.Mathlib.Numerals.{add-one}
use native.Mathlib.Omega.{arith}
use lib.ListN.{length, get_or, take, drop, replicate, length-append, length-replicate, length-drop}
use lib.Seq.{drop-drop, take-suc, drop-cons, set_at, take_at, take-length, drop-length, append_snoc, get_or_at, length-take-le}
use Rattle.std.specs.List.{swap}
use Rattle.std.proofs.lemmas.List.Edits.{swap_is, length-swap}
use Rattle.lists.specs.Table.{sum, lists}
use Rattle.lists.proofs.Tables.{length-lists}
use Rattle.list_changes.specs.Edits.{filled, nonzero, packed}

-- ---- the lengths

pub nonzero_append : (xs ys : List ℕ) → nonzero (xs ++ ys) ≡ nonzero xs ++ nonzero ys
unfolding nonzero
nonzero_append [] ys = refl
nonzero_append (zero ∷ xs) ys = nonzero_append xs ys
nonzero_append (suc x ∷ xs) ys = ap (λ z. suc x ∷ z) (nonzero_append xs ys)

pub nonzero_le : (xs : List ℕ) → length (nonzero xs) ≤ length xs
unfolding nonzero
nonzero_le [] = omega arith
nonzero_le (zero ∷ xs) = let rest = nonzero_le xs in omega arith
nonzero_le (suc x ∷ xs) = let rest = nonzero_le xs in omega arith

pub sum-nonzero : (xs : List ℕ) → sum (nonzero xs) ≡ sum xs
unfolding nonzero
sum-nonzero [] = refl
sum-nonzero (zero ∷ xs) = let rest = sum-nonzero xs in omega arith
sum-nonzero (suc x ∷ xs) = let rest = sum-nonzero xs in omega arith

pub length-packed : (lengths : List ℕ) → length (packed lengths) ≡ length lengths
unfolding packed
length-packed lengths = simp (length-append, length-replicate) (omega (arith, nonzero_le lengths))

-- ---- the lists

-- the lists of a table whose first visits are those of the lists before
pub lists_append : (visits ms ns : List ℕ) → lists visits (ms ++ ns) ≡ lists visits ms ++ lists (drop (sum ms) visits) ns
unfolding lists
lists_append visits [] ns = refl
lists_append visits (m ∷ ms) ns = rw (lists_append (drop m visits) ms ns, drop-drop)

-- none has a visit
lists_zeros : (visits : List ℕ) (k : ℕ) → lists visits (replicate k 0) ≡ replicate k []
unfolding lists
lists_zeros visits zero = refl
lists_zeros visits (suc k) = ap (λ z. [] ∷ z) (lists_zeros visits k)

lists-nonzero : (visits lengths : List ℕ) → sum lengths ≤ length visits → lists visits (nonzero lengths) ≡ filled (lists visits lengths)
unfolding lists nonzero
lists-nonzero visits [] h = refl
lists-nonzero visits (zero ∷ lengths) h = lists-nonzero visits lengths (omega arith)
lists-nonzero [] (suc n ∷ lengths) h = absurd (omega arith)
lists-nonzero (v ∷ visits) (suc n ∷ lengths) h =
    ap (λ z. (v ∷ take n visits) ∷ z) (lists-nonzero (drop n visits) lengths (rw length-drop (omega arith)))

module _ (visits lengths : List ℕ) (add-up : sum lengths ≡ length visits) where
  -- the filled lists, and behind them an empty one for each list dropped
  pub packed-lists : lists visits (packed lengths) ≡ filled (lists visits lengths) ++ replicate (length lengths - length (nonzero lengths)) []
  unfolding packed
  packed-lists =
      rw (lists_append, lists_zeros, lists-nonzero visits lengths (omega arith))

  -- so many as lengths that aren't 0
  pub packed_count : length (nonzero lengths) ≡ length (filled (lists visits lengths))
  packed_count = sym (length-lists visits (nonzero lengths)) ∙ ap length (lists-nonzero visits lengths (omega arith))

  -- and so the first that many lists are the filled ones
  pub packed_first : take (length (nonzero lengths)) (lists visits (packed lengths)) ≡ filled (lists visits lengths)
  packed_first = rw packed-lists (take_at _ _ _ (sym packed_count))

-- ---- one turn of the loop

-- the lengths with the first i packed
unfoldable pub packed_to : ℕ → List ℕ → List ℕ
packed_to i xs = nonzero (take i xs) ++ (replicate (i - length (nonzero (take i xs))) 0 ++ drop i xs)

pub packed_none : (xs : List ℕ) → xs ≡ packed_to 0 xs
unfolding packed_to nonzero
packed_none xs = refl

pub packed_all : (xs : List ℕ) → packed_to (length xs) xs ≡ packed xs
unfolding packed_to packed
packed_all xs = rw (take-length xs, drop-length xs, append-nil)

zeros_first : (k : ℕ) (rest : List ℕ) → replicate k 0 ++ 0 ∷ rest ≡ 0 ∷ (replicate k 0 ++ rest)
zeros_first zero rest = refl
zeros_first (suc k) rest = ap (λ z. 0 ∷ z) (zeros_first k rest)

-- the length behind the zeros and the first of them change places
swapped_up : (A : List ℕ) (i k x : ℕ) (rest : List ℕ) → length A + k ≡ i
    → swap (A ++ (replicate k 0 ++ x ∷ rest)) (length A) i ≡ A ++ x ∷ (replicate k 0 ++ rest)
swapped_up A i zero x rest e =
    let all : List ℕ = A ++ x ∷ rest in
    let long : length all ≡ length A + suc (length rest) = length-append A (x ∷ rest) in
    let here : length A ≡ i = omega arith in
    let there : get_or all i 0 ≡ x = get_or_at A x rest 0 i here in
    let first : get_or all (length A) 0 ≡ x = get_or_at A x rest 0 (length A) refl in
    sym (swap_is all (length A) i 0 (omega arith) (omega arith))
    ∙ rw (there, first, set_at A x rest x (length A) refl) (set_at A x rest x i here)
swapped_up A i (suc k) x rest e =
    let all : List ℕ = A ++ 0 ∷ (replicate k 0 ++ x ∷ rest) in
    let zeros : List ℕ = A ++ replicate (suc k) 0 in
    let long : length zeros ≡ i = simp (length-append, length-replicate) e in
    let front_long : length (A ++ x ∷ replicate k 0) ≡ i = simp (length-append, length-replicate) e in
    let split : all ≡ zeros ++ x ∷ rest = sym (append_assoc A (replicate (suc k) 0) (x ∷ rest)) in
    let longer : length all ≡ i + suc (length rest) = ap length split ∙ length-append zeros (x ∷ rest) ∙ ap (λ (n : ℕ). n + suc (length rest)) long in
    let there : get_or all i 0 ≡ x = ap (λ (l : List ℕ). get_or l i 0) split ∙ get_or_at zeros x rest 0 i long in
    let first : get_or all (length A) 0 ≡ 0 = get_or_at A 0 (replicate k 0 ++ x ∷ rest) 0 (length A) refl in
    sym (swap_is all (length A) i 0 (omega arith) (omega arith))
    ∙ rw (
      there,
      first,
      set_at A 0 (replicate k 0 ++ x ∷ rest) x (length A) refl,
      ← append_assoc A (x ∷ replicate k 0) (x ∷ rest),
      set_at (A ++ x ∷ replicate k 0) x rest 0 i front_long,
      append_assoc,
      zeros_first,
    )

-- it counts as packed where it isn't 0, and else as one more 0
counted : (A : List ℕ) (i k x : ℕ) (rest : List ℕ) → length A + k ≡ i
    → A ++ x ∷ (replicate k 0 ++ rest) ≡ A ++ nonzero (x ∷ []) ++ (replicate (suc i - length (A ++ nonzero (x ∷ []))) 0 ++ rest)
unfolding nonzero
counted A i k zero rest e = let more : suc i - length A ≡ suc k = omega arith in rw (append-nil A, more)
counted A i k (suc x) rest e =
    let more : suc i - length (A ++ suc x ∷ []) ≡ k = rw length-append (omega arith) in
    rw (more, append_snoc A (suc x) (replicate k 0 ++ rest))

module _ (xs : List ℕ) (i : ℕ) (there : i < length xs) where
  behind : length (nonzero (take i xs)) + (i - length (nonzero (take i xs))) ≡ i
  behind = omega (arith, nonzero_le (take i xs), length-take-le i xs (omega arith))

  pub packed-at : get_or (packed_to i xs) i 0 ≡ get_or xs i 0
  unfolding packed_to
  packed-at =
      let long : length (nonzero (take i xs) ++ replicate (i - length (nonzero (take i xs))) 0) ≡ i = simp (length-append, length-replicate) behind in
      rw (drop-cons xs i 0 there, ← append_assoc (nonzero (take i xs)), get_or_at _ (get_or xs i 0) (drop (suc i) xs) 0 i long)

  pub packed_more : swap (packed_to i xs) (length (nonzero (take i xs))) i ≡ packed_to (i + 1) xs
  unfolding packed_to nonzero
  packed_more =
      rw (add-one, take-suc xs i 0 there, nonzero_append, drop-cons xs i 0 there)
      (swapped_up (nonzero (take i xs)) i _ (get_or xs i 0) (drop (suc i) xs) behind ∙ counted (nonzero (take i xs)) i _ (get_or xs i 0) (drop (suc i) xs) behind)

  pub count_more : length (nonzero (take i xs)) + length (nonzero (get_or xs i 0 ∷ [])) ≡ length (nonzero (take (i + 1) xs))
  count_more = rw (add-one, take-suc xs i 0 there, nonzero_append, length-append)

-- a length counts as one where it isn't 0
pub one_of_zero : (n : ℕ) → n ≡ 0 → 0 ≡ length (nonzero (n ∷ []))
unfolding nonzero
one_of_zero n e = rw e

pub one_of_other : (n : ℕ) → n ≢ 0 → 1 ≡ length (nonzero (n ∷ []))
unfolding nonzero
one_of_other zero h = absurd (h refl)
one_of_other (suc n) h = refl

-- where the loop stands: the first i of the lengths xs are packed, and `kept` of them are not 0
pub record Packing (xs now : List ℕ) (kept i : ℕ) : Type 0 where
  pub reached : i ≤ length xs
  pub kept_below : kept ≤ i
  pub same_length : length now ≡ length xs
  pub kept_is : kept ≡ length (nonzero (take i xs))
  pub now_is : now ≡ packed_to i xs

pub packing_starts : (xs : List ℕ) → Packing xs xs 0 0
unfolding nonzero
packing_starts xs = record { reached = omega arith; kept_below = omega arith; same_length = refl; kept_is = refl; now_is = packed_none xs }

pub packing_turns : (xs now : List ℕ) (kept i more : ℕ) → Packing xs now kept i → i < length xs → more ≡ length (nonzero (get_or now i 0 ∷ []))
    → Packing xs (swap now kept i) (kept + more) (i + 1)
packing_turns xs now kept i more p there e =
    let here : get_or now i 0 ≡ get_or xs i 0 = rw p.now_is (packed-at xs i there) in
    let count : kept + more ≡ length (nonzero (take (i + 1) xs)) = rw (p.kept_is, e, here) (count_more xs i there) in
    record {
      reached = omega arith;
      kept_below = omega (arith, count, nonzero_le (take (i + 1) xs), length-take-le (i + 1) xs (omega arith));
      same_length = length-swap now kept i ∙ p.same_length;
      kept_is = count;
      now_is = rw (p.kept_is, p.now_is) (packed_more xs i there);
    }

pub packing_ends : (xs now : List ℕ) (kept i : ℕ) → Packing xs now kept i → length xs ≤ i → (kept ≡ length (nonzero xs)) × (now ≡ packed xs)
packing_ends xs now kept i p h =
    let all : i ≡ length xs = omega (arith, p.reached) in (
      p.kept_is ∙ ap (λ k. length (nonzero (take k xs))) all ∙ ap (λ z. length (nonzero z)) (take-length xs),
      p.now_is ∙ ap (λ k. packed_to k xs) all ∙ packed_all xs,
    )
