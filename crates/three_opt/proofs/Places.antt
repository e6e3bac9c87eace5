-- The places from a place on: each is followed by the place behind it, so that one loop passes all of them in the order of the Rust's three.
-- Assumes nothing.
use mathlib.Core.Path.{◌≡◌, refl, ap, ◌∙◌}
use mathlib.Core.Bool.{Bool, true, false, cond}
use mathlib.Core.List.{List, [], ◌∷◌, ◌++◌, map, append_assoc}
use Prim.Native.Nat.{ℕ, suc, ◌+◌, ◌-◌, ◌*◌, ◌≤◌, ◌<◌}
use native.Mathlib.Nat.{le_trans, mul-le-mul_right, div-le_self}
use native.Mathlib.Numerals.{add-one}
use native.Mathlib.Omega.{arith}
use borrow.Author.Tests.{le-leb, lt-leb, ltb-true, ltb-false}
use lib.Dec.{ltb}
use lib.ListN.{length}
use Rattle.descent.specs.Order.{range, each}
use Rattle.descent.specs.Within.{Cut, cuts}
use Rattle.descent.proofs.Counts.{three_opt-cuts}
use Rattle.descent.proofs.Loops.{range_step, range_done}
use Rattle.reconnections.specs.Reconnections.{Inside, cut_of}
use Rattle.three_opt.specs.ThreeOpt.{place_after}
use Rattle.reconnections.specs.declared.Place.{Place}

-- the places of i and j from k on; of i with its middle from j on; with their first from i on
abbrev row : ℕ → ℕ → ℕ → ℕ → List Cut
row n i j k = map (λ k. record { i = i; j = j; k = k }) (range k n)

abbrev rows : ℕ → ℕ → ℕ → List Cut
rows n i j = each (range j (n - 1)) λ j. row n i j (suc j)

abbrev planes : ℕ → ℕ → List Cut
planes n i = each (range i (n - 2)) λ i. rows n i (suc i)

-- the places from a place on
unfoldable pub cuts_from : ℕ → Place → List Cut
cuts_from n place = row n place.i place.j place.k ++ (rows n place.i (suc place.j) ++ planes n (suc place.i))

-- a place of the sweep, or its end
pub record Standing (n : ℕ) (place : Place) : Type 0 where
  pub i_first : place.i < place.j
  pub j_next : place.j < place.k
  pub at_end : n ≤ place.k → (n ≤ place.j + 1) × (n ≤ place.i + 2)

module _ (n : ℕ) where
  rows_on : (i j : ℕ) → suc j < n → rows n i j ≡ row n i j (suc j) ++ rows n i (suc j)
  rows_on i j h = rw (range_step j (n - 1) (omega arith))

  planes_on : (i : ℕ) → suc (suc i) < n → planes n i ≡ row n i (suc i) (suc (suc i)) ++ (rows n i (suc (suc i)) ++ planes n (suc i))
  planes_on i h =
      let first : planes n i ≡ rows n i (suc i) ++ planes n (suc i) = rw (range_step i (n - 2) (omega arith)) in
      first ∙ ap (λ (l : List Cut). l ++ planes n (suc i)) (rows_on i (suc i) h)
      ∙ append_assoc (row n i (suc i) (suc (suc i))) (rows n i (suc (suc i))) (planes n (suc i))

  pub cuts_start : 4 ≤ n → cuts n ≡ cuts_from n (record { i = 0; j = 1; k = 2 })
  unfolding cuts_from
  cuts_start h = rw (le-leb 4 n h, cuts) (planes_on 0 (omega arith))

  pub cuts-few : n < 4 → cuts n ≡ []
  cuts-few h = rw (lt-leb 4 n h, cuts)

  pub standing_inside : (place : Place) → Standing n place → place.k < n → Inside n place
  standing_inside place s h = record { i_first = s.i_first; j_next = s.j_next; k_there = h }

  pub standing_start : 4 ≤ n → Standing n (record { i = 0; j = 1; k = 2 })
  standing_start h = record { i_first = omega arith; j_next = omega arith; at_end = λ e. (omega arith, omega arith) }

  -- one place, and those behind it
  turn : (place : Place) → Standing n place → place.k < n
      → (cuts_from n place ≡ cut_of place ∷ cuts_from n (place_after n place)) × Standing n (place_after n place)
  unfolding cuts_from place_after
  turn place s h = go (ltb (k + 1) n) refl
    where
      i : ℕ
      i = place.i

      j : ℕ
      j = place.j

      k : ℕ
      k = place.k

      further : ℕ → List Cut
      further a = rows n i a ++ planes n (suc i)

      here : row n i j k ≡ cut_of place ∷ row n i j (suc k)
      here = rw (range_step k n h)

      all : row n i j k ++ further (suc j) ≡ cut_of place ∷ (row n i j (suc k) ++ further (suc j))
      all = ap (λ (l : List Cut). l ++ further (suc j)) here

      row_over : n ≤ suc k → row n i j (suc k) ++ further (suc j) ≡ further (suc j)
      row_over e = ap (λ (l : List ℕ). map (λ k. record { i = i; j = j; k = k }) l ++ further (suc j)) (range_done (suc k) n e)

      to_plane : n ≤ suc (suc j) → further (suc j) ≡ planes n (suc i)
      to_plane e = ap (λ (l : List ℕ). each l (λ j. row n i j (suc j)) ++ planes n (suc i)) (range_done (suc j) (n - 1) (omega arith))

      Goal : Place → Type 0
      Goal next = (row n i j k ++ further (suc j)
          ≡ cut_of place ∷ (row n next.i next.j next.k ++ (rows n next.i (suc next.j) ++ planes n (suc next.i)))) × Standing n next

      last : (b : Bool) → ltb (j + 2) n ≡ b → n ≤ k + 1
          → Goal (cond b (record { i = i; j = j + 1; k = j + 2 }) (record { i = i + 1; j = i + 2; k = i + 3 }))
      last true e over =
          let room = ltb-true (j + 2) n e in
          let one : j + 1 ≡ suc j = add-one j in
          let two : j + 2 ≡ suc (suc j) = omega arith in
          let moved : further (suc j) ≡ row n i (suc j) (suc (suc j)) ++ further (suc (suc j)) =
          ap (λ (l : List Cut). l ++ planes n (suc i)) (rows_on i (suc j) (omega arith))
          ∙ append_assoc (row n i (suc j) (suc (suc j))) (rows n i (suc (suc j))) (planes n (suc i)) in
          let first = s.i_first in (
            rw (one, two) (all ∙ ap (λ (l : List Cut). cut_of place ∷ l) (row_over (omega arith) ∙ moved)),
            record { i_first = omega arith; j_next = omega arith; at_end = λ e. absurd (omega arith) },
          )
      last false e over = ends (ltb (i + 3) n) refl
        where
          out : n ≤ j + 2
          out = ltb-false (j + 2) n e

          one : i + 1 ≡ suc i
          one = add-one i

          two : i + 2 ≡ suc (suc i)
          two = omega arith

          three : i + 3 ≡ suc (suc (suc i))
          three = omega arith

          behind : row n i j (suc k) ++ further (suc j) ≡ planes n (suc i)
          behind = row_over (omega arith) ∙ to_plane (omega (arith, out))

          nothing : n ≤ i + 3
              → planes n (suc i) ≡ row n (suc i) (suc (suc i)) (suc (suc (suc i))) ++ (rows n (suc i) (suc (suc (suc i))) ++ planes n (suc (suc i)))
          nothing done = rw (
            range_done (suc i) (n - 2) (omega arith),
            range_done (suc (suc (suc i))) n (omega arith),
            range_done (suc (suc (suc i))) (n - 1) (omega arith),
            range_done (suc (suc i)) (n - 2) (omega arith),
          )

          ends : (b : Bool) → ltb (i + 3) n ≡ b → Goal (record { i = i + 1; j = i + 2; k = i + 3 })
          ends true e =
              let room = ltb-true (i + 3) n e in (
                rw (one, two, three) (all ∙ ap (λ (l : List Cut). cut_of place ∷ l) (behind ∙ planes_on (suc i) (omega arith))),
                record { i_first = omega arith; j_next = omega arith; at_end = λ e. absurd (omega arith) },
              )
          ends false e =
              let done = ltb-false (i + 3) n e in (
                rw (one, two, three) (all ∙ ap (λ (l : List Cut). cut_of place ∷ l) (behind ∙ nothing done)),
                record { i_first = omega arith; j_next = omega arith; at_end = λ e. (omega arith, omega arith) },
              )

      go : (b : Bool) → ltb (k + 1) n ≡ b
          → Goal (cond b (record { i = i; j = j; k = k + 1 })
          (cond (ltb (j + 2) n) (record { i = i; j = j + 1; k = j + 2 }) (record { i = i + 1; j = i + 2; k = i + 3 })))
      go true e =
          let room = ltb-true (k + 1) n e in
          let one : k + 1 ≡ suc k = add-one k in
          let first = s.i_first in let second = s.j_next in
          (rw one all, record { i_first = omega arith; j_next = omega arith; at_end = λ e. absurd (omega arith) })
      go false e = last (ltb (j + 2) n) refl (ltb-false (k + 1) n e)

  pub cuts_turn : (place : Place) → Standing n place → place.k < n → cuts_from n place ≡ cut_of place ∷ cuts_from n (place_after n place)
  cuts_turn place s h = (turn place s h).0

  pub standing_turn : (place : Place) → Standing n place → place.k < n → Standing n (place_after n place)
  standing_turn place s h = (turn place s h).1

  pub cuts_end : (place : Place) → Standing n place → n ≤ place.k → cuts_from n place ≡ []
  unfolding cuts_from
  cuts_end place s h =
      let e = s.at_end h in
      rw (
        range_done place.k n h,
        range_done (suc place.j) (n - 1) (omega arith),
        range_done (suc place.i) (n - 2) (omega arith),
      )

  -- the places ahead get fewer
  pub cuts_fewer : (place : Place) → Standing n place → place.k < n → length (cuts_from n (place_after n place)) < length (cuts_from n place)
  cuts_fewer place s h = rw (cuts_turn place s h) (omega arith)

-- there are fewer than 262,145 places
pub few_cuts : (n : ℕ) → 4 ≤ n → n ≤ 63 → length (cuts_from n (record { i = 0; j = 1; k = 2 })) ≤ 262144
few_cuts n four h =
    let pairs : n * (n - 1) ≤ 64 * (n - 1) = mul-le-mul_right (n - 1) (omega arith) in
    let fewer : n * (n - 1) ≤ 4096 = omega arith in
    let triples : n * (n - 1) * (n - 2) ≤ 4096 * (n - 2) = mul-le-mul_right (n - 2) fewer in
    rw (← (cuts_start n four), three_opt-cuts n four) (le_trans (div-le_self (n * (n - 1) * (n - 2)) 6) (omega arith))
