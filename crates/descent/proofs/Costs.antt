-- What each permitted move changes in the sum of demand 3, where the leg from the depot to itself is 0. Assumes nothing.
use mathlib.Core.Path.{◌≡◌, refl}
use mathlib.Core.Bool.{Bool, true, false}
use mathlib.Core.List.{List, [], ◌∷◌, ◌++◌, reverse}
use Prim.Native.Nat.{ℕ, ◌+◌, ◌≤◌}
use native.Mathlib.Omega.{arith}
use Rattle.descent.specs.Sum.{Roads, round, price, cost}
use Rattle.descent.specs.Permitted.{Changed}
use Rattle.descent.proofs.Walk.{first, end, inside, back, flat, joins}
use Rattle.descent.proofs.Gains.{way, laid, turned_gain, swapped_gain, laid_gain, put_gain, tails_gain, length-turn}
use Rattle.descent.proofs.Kept.{changed_total}
use lib.ListN.{length, length-append, length-reverse}

-- the fixed cost of a list that is used, and of one that is not
abbrev pub used : Roads → List ℕ → ℕ
used roads [] = 0
used roads (x ∷ xs) = roads.fixed

abbrev pub spared : Roads → List ℕ → ℕ
spared roads [] = roads.fixed
spared roads (x ∷ xs) = 0

pub used-spared : (roads : Roads) (xs : List ℕ) → used roads xs + spared roads xs ≡ roads.fixed
used-spared roads [] = omega arith
used-spared roads (x ∷ xs) = omega arith

pub used_some : (roads : Roads) (xs : List ℕ) → 1 ≤ length xs → used roads xs ≡ roads.fixed
used_some roads [] h = absurd (omega arith)
used_some roads (x ∷ xs) h = refl

pub used-length : (roads : Roads) (xs ys : List ℕ) → length xs ≡ length ys → used roads xs ≡ used roads ys
used-length roads [] [] h = refl
used-length roads [] (y ∷ ys) h = absurd (omega arith)
used-length roads (x ∷ xs) [] h = absurd (omega arith)
used-length roads (x ∷ xs) (y ∷ ys) h = refl

module _ (roads : Roads) (home : roads.distance roads.depot roads.depot ≡ 0) where
  pub price-round : (xs : List ℕ) → price roads xs ≡ used roads xs + round roads xs
  price-round [] = omega arith
  price-round (x ∷ xs) = refl

  -- a list reordered: what its tour loses and gains, its price loses and gains
  pub price_reordered : (xs ys : List ℕ) (out put : ℕ) → length ys ≡ length xs
      → round roads ys + out ≡ round roads xs + put → price roads ys + out ≡ price roads xs + put
  price_reordered xs ys out put l e = omega (arith, price-round xs, price-round ys, used-length roads ys xs l)

  -- relocate: the fixed cost is spared where the giver is left empty, and paid where the receiver was
  pub relocate-cost : (v : ℕ) (A B C D : List ℕ) (ls ms : List (List ℕ)) → Changed (A ++ v ∷ B) (C ++ D) (A ++ B) (C ++ v ∷ D) ls ms
      → let d = roads.distance in let z = roads.depot in
      cost roads ms + (d (end z A) v + d v (first z B) + d (end z C) (first z D) + spared roads (A ++ B))
      ≡ cost roads ls + (d (end z A) (first z B) + d (end z C) v + d v (first z D) + spared roads (C ++ D))
  relocate-cost v A B C D ls ms m =
      let d = roads.distance in let z = roads.depot in
      let some : 1 ≤ length (A ++ v ∷ B) = simp length-append (omega arith) in
      let some' : 1 ≤ length (C ++ v ∷ D) = simp length-append (omega arith) in
      let all = changed_total (price roads) (A ++ v ∷ B) (C ++ D) (A ++ B) (C ++ v ∷ D) ls ms m in
      omega (
        arith,
        put_gain d z v A B,
        put_gain d z v C D,
        price-round (A ++ v ∷ B),
        price-round (A ++ B),
        price-round (C ++ D),
        price-round (C ++ v ∷ D),
        used_some roads (A ++ v ∷ B) some,
        used_some roads (C ++ v ∷ D) some',
        used-spared roads (A ++ B),
        used-spared roads (C ++ D),
      )

  -- tail exchange: the four lists have a visit each, so no fixed cost comes or goes
  pub tails_cost : (A B C D : List ℕ) (ls ms : List (List ℕ)) → 1 ≤ length A → 1 ≤ length C → Changed (A ++ B) (C ++ D) (A ++ D) (C ++ B) ls ms
      → let d = roads.distance in let z = roads.depot in
      cost roads ms + (d (end z A) (first z B) + d (end z C) (first z D)) ≡ cost roads ls + (d (end z A) (first z D) + d (end z C) (first z B))
  tails_cost A B C D ls ms h k m =
      let d = roads.distance in let z = roads.depot in
      let all = changed_total (price roads) (A ++ B) (C ++ D) (A ++ D) (C ++ B) ls ms m in
      let l₁ : 1 ≤ length (A ++ B) = simp length-append (omega arith) in
      let l₂ : 1 ≤ length (C ++ D) = simp length-append (omega arith) in
      let l₃ : 1 ≤ length (A ++ D) = simp length-append (omega arith) in
      let l₄ : 1 ≤ length (C ++ B) = simp length-append (omega arith) in
      omega (
        arith,
        tails_gain d z A B C D,
        price-round (A ++ B),
        price-round (C ++ D),
        price-round (A ++ D),
        price-round (C ++ B),
        used_some roads (A ++ B) l₁,
        used_some roads (C ++ D) l₂,
        used_some roads (A ++ D) l₃,
        used_some roads (C ++ B) l₄,
      )

  -- 2-opt
  pub turned_price : (A B C : List ℕ) → 1 ≤ length B
      → let d = roads.distance in let z = roads.depot in
      price roads (A ++ reverse B ++ C) + (d (end z A) (first z B) + d (end z B) (first z C) + inside d B)
      ≡ price roads (A ++ B ++ C) + (d (end z A) (end z B) + d (first z B) (first z C) + inside (back d) B)
  turned_price A B C h =
      let l : length (A ++ reverse B ++ C) ≡ length (A ++ B ++ C) = simp (length-append, length-reverse) in
      price_reordered (A ++ B ++ C) (A ++ reverse B ++ C) _ _ l (turned_gain roads.distance roads.depot A B C h)

  -- Or-opt
  pub swapped_price : (A B C D : List ℕ) → 1 ≤ length B → 1 ≤ length C
      → let d = roads.distance in let z = roads.depot in
      price roads (A ++ C ++ B ++ D) + (d (end z A) (first z B) + d (end z B) (first z C) + d (end z C) (first z D))
      ≡ price roads (A ++ B ++ C ++ D) + (d (end z A) (first z C) + d (end z C) (first z B) + d (end z B) (first z D))
  swapped_price A B C D h k =
      let l : length (A ++ C ++ B ++ D) ≡ length (A ++ B ++ C ++ D) = simp length-append (omega arith) in
      price_reordered (A ++ B ++ C ++ D) (A ++ C ++ B ++ D) _ _ l (swapped_gain roads.distance roads.depot A B C D h k)

  length-laid : (s b c : Bool) (B C : List ℕ) → length (flat (laid s b c B C)) ≡ length B + length C
  length-laid false b c B C = simp (length-append, length-turn) (omega arith)
  length-laid true b c B C = simp (length-append, length-turn) (omega arith)

  -- 3-opt
  pub laid-price : (s b c : Bool) (A B C D : List ℕ)
      → let d = roads.distance in let z = roads.depot in
      price roads (A ++ flat (laid s b c B C) ++ D) + (joins d (end z A) (B ∷ C ∷ []) (first z D) + inside d B + inside d C)
      ≡ price roads (A ++ B ++ C ++ D) + (joins d (end z A) (laid s b c B C) (first z D) + inside (way b d) B + inside (way c d) C)
  laid-price s b c A B C D =
      let l : length (A ++ flat (laid s b c B C) ++ D) ≡ length (A ++ B ++ C ++ D) = simp (length-append, length-laid) (omega arith) in
      price_reordered (A ++ B ++ C ++ D) (A ++ flat (laid s b c B C) ++ D) _ _ l (laid_gain roads.distance roads.depot s b c A B C D)
