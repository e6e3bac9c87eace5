-- Or-opt tries exactly the pieces of one to three visits, at the positions that it may take. Assumes nothing.
use mathlib.Core.Path.{◌≡◌, refl, subst}
use mathlib.Core.Logic.{◌⊎◌, inl, inr}
use mathlib.Core.Bool.{Bool, true, false}
use mathlib.Core.List.{List, [], ◌∷◌, ◌++◌, map}
use Prim.Native.Nat.{ℕ, suc, ◌+◌, ◌-◌, ◌≤◌, ◌<◌}
use native.Mathlib.Omega.{arith}
use lib.Dec.{T, ltb}
use lib.ListN.{length, take, drop, length-append}
use borrow.Author.Tests.{ltb-true, ltb-false, lt-ltb, le-ltb}
use lib.Seq.{slice, length-slice, length-take-le}
use Rattle.descent.specs.Order.{◌∈◌, range}
use Rattle.descent.specs.Permitted.{Checks, PieceMoved, earlier, later, or_opt}
use Rattle.descent.specs.Within.{Piece, pieces, put_before_lem}
use Rattle.descent.proofs.Members.{T_true, true-T, in_left, in_right, in_either, in_range, range_in, in_each, each_in, in_map, map_in}
use Rattle.descent.proofs.Cuts.{cut4, cut4_A, cut4_B, cut4_C, cut4_D}
use Rattle.descent.proofs.Claims.{Tried, Covered, Faithful}

-- the positions that a piece may take: before its start, or behind its end up to the last
abbrev pub Positioned : (ℕ → ℕ → ℕ) → ℕ → ℕ → ℕ → ℕ → Type 0
Positioned last n size from to = (to < from) ⊎ ((from + size < to) × (to ≤ last n size))

pub in_pieces : (last : ℕ → ℕ → ℕ) (n size from to : ℕ) → from + size ≤ n → Positioned last n size from to
    → ◌∈◌ {A = Piece} (record { size = size; from = from; to = to }) (pieces last n size)
in_pieces last n size from to h pos =
    in_each (λ from. map (λ to. record { size = size; from = from; to = to }) (range 0 from ++ range (suc (from + size)) (suc (last n size))))
    (range 0 (suc (n - size))) from
    (record { size = size; from = from; to = to }) (in_range 0 (suc (n - size)) from (omega arith) (omega arith))
    (in_map (λ to. record { size = size; from = from; to = to }) (range 0 from ++ range (suc (from + size)) (suc (last n size))) to (there-is pos))
  where
    there-is : (to < from) ⊎ ((from + size < to) × (to ≤ last n size)) → to ∈ range 0 from ++ range (suc (from + size)) (suc (last n size))
    there-is (inl l) = in_left (range (suc (from + size)) (suc (last n size))) (in_range 0 from to (omega arith) l)
    there-is (inr l) = in_right (range 0 from) (in_range (suc (from + size)) (suc (last n size)) to l.0 (let k = l.1 in omega arith))

pub pieces_in : (last : ℕ → ℕ → ℕ) → ((n p : ℕ) → last n p ≤ n) → (n size : ℕ) (p : Piece) → p ∈ pieces last n size
    → (p.size ≡ size) × (p.from + size ≤ n) × Positioned last n size p.from p.to
pieces_in last within n size p h =
    let a = each_in (λ from. map (λ to. record { size = size; from = from; to = to }) (range 0 from ++ range (suc (from + size)) (suc (last n size))))
    (range 0 (suc (n - size))) p h in
    let b = map_in (λ to. record { size = size; from = a.0; to = to }) (range 0 a.0 ++ range (suc (a.0 + size)) (suc (last n size))) p a.2 in
    let f = range_in 0 (suc (n - size)) a.0 a.1 in
    rw (← b.2) (go a.0 b.0 f.1 (in_either (range 0 a.0) (range (suc (a.0 + size)) (suc (last n size))) b.0 b.1))
  where
    go : (from to : ℕ) → from < suc (n - size) → (to ∈ range 0 from) ⊎ (to ∈ range (suc (from + size)) (suc (last n size)))
        → (size ≡ size) × (from + size ≤ n) × ((to < from) ⊎ ((from + size < to) × (to ≤ last n size)))
    go from to f (inl k) = let r = range_in 0 from to k in (refl, omega arith, inl r.1)
    go from to f (inr k) = let r = range_in (suc (from + size)) (suc (last n size)) to k in let w = within n size in
        (refl, omega arith, inr (r.0, omega arith))

pub sizes_in : (s : ℕ) → s ∈ 1 ∷ 2 ∷ 3 ∷ [] → (1 ≤ s) × (s ≤ 3)
sizes_in s h = let r = range_in 1 4 s h in (r.0, omega arith)

in_sizes : (s : ℕ) → 1 ≤ s → s ≤ 3 → s ∈ 1 ∷ 2 ∷ 3 ∷ []
in_sizes s h k = in_range 1 4 s h (omega arith)

module _ (last : ℕ → ℕ → ℕ) (within : (n p : ℕ) → last n p ≤ n) (checks : Checks) where
  forward : (xs : List ℕ) (size from to : ℕ) → 1 ≤ size → size ≤ 3 → from + size ≤ length xs → to < from
      → let ys = take to xs ++ slice from (from + size) xs ++ slice to from xs ++ drop (from + size) xs in
      checks.passes ys ≡ true → PieceMoved last checks.passes xs ys
  forward xs size from to h₁ h₃ h l p =
      let ys = take to xs ++ slice from (from + size) xs ++ slice to from xs ++ drop (from + size) xs in
      let lB = length-slice to from xs (omega arith) in
      let lP = length-slice from (from + size) xs h in
      subst (λ (z : List ℕ). PieceMoved last checks.passes z ys) (cut4 xs to from (from + size) (omega arith) (omega arith))
      (earlier (take to xs) (slice to from xs) (slice from (from + size) xs) (drop (from + size) xs) (omega arith) (omega arith) (omega arith)
      (true-T (checks.passes ys) p))

  rearward : (xs : List ℕ) (size from to : ℕ) → 1 ≤ size → size ≤ 3 → from + size < to → to ≤ last (length xs) size
      → let ys = take from xs ++ slice (from + size) to xs ++ slice from (from + size) xs ++ drop to xs in
      checks.passes ys ≡ true → PieceMoved last checks.passes xs ys
  rearward xs size from to h₁ h₃ l t p =
      let ys = take from xs ++ slice (from + size) to xs ++ slice from (from + size) xs ++ drop to xs in
      let w = within (length xs) size in
      let was = cut4 xs from (from + size) to (omega arith) (omega arith) in
      let A = take from xs in let P = slice from (from + size) xs in let B = slice (from + size) to xs in
      let lA = length-take-le from xs (omega arith) in
      let lP : length P ≡ size = let q = length-slice from (from + size) xs (omega arith) in omega arith in
      let lB = length-slice (from + size) to xs (omega arith) in
      let n : length (A ++ P ++ B) ≡ to = rw (length-append (A ++ P) B, length-append A P) (omega arith) in
      subst (λ (z : List ℕ). PieceMoved last checks.passes z ys) was
      (later A P B (drop to xs) (omega arith) (omega arith) (omega arith) (rw (was, n, lP) t) (true-T (checks.passes ys) p))

  permits : (xs : List ℕ) (p : Piece) → Tried (or_opt last) checks xs p → checks.passes (put_before_lem xs p) ≡ true
      → PieceMoved last checks.passes xs (put_before_lem xs p)
  permits xs p tried passed =
      let s = sizes_in tried.place tried.place_in in
      let q = pieces_in last within (length xs) tried.place p tried.move_in in
      let e = q.0 in
      go (ltb p.to p.from) refl (rw e s.0) (rw e s.1) (rw e q.1) (rw e q.2) passed
    where
      made : Bool → List ℕ
      made b = elim b [
        | true ↦ take p.to xs ++ slice p.from (p.from + p.size) xs ++ slice p.to p.from xs ++ drop (p.from + p.size) xs
        | false ↦ take p.from xs ++ slice (p.from + p.size) p.to xs ++ slice p.from (p.from + p.size) xs ++ drop p.to xs
      ]

      go : (b : Bool) → ltb p.to p.from ≡ b → 1 ≤ p.size → p.size ≤ 3 → p.from + p.size ≤ length xs
          → (p.to < p.from) ⊎ ((p.from + p.size < p.to) × (p.to ≤ last (length xs) p.size))
          → checks.passes (elim b [
            | true ↦ take p.to xs ++ slice p.from (p.from + p.size) xs ++ slice p.to p.from xs ++ drop (p.from + p.size) xs
            | false ↦ take p.from xs ++ slice (p.from + p.size) p.to xs ++ slice p.from (p.from + p.size) xs ++ drop p.to xs
          ]) ≡ true → PieceMoved last checks.passes xs (elim b [
            | true ↦ take p.to xs ++ slice p.from (p.from + p.size) xs ++ slice p.to p.from xs ++ drop (p.from + p.size) xs
            | false ↦ take p.from xs ++ slice (p.from + p.size) p.to xs ++ slice p.from (p.from + p.size) xs ++ drop p.to xs
          ])
      go true e h₁ h₃ h pos passed = forward xs p.size p.from p.to h₁ h₃ h (ltb-true p.to p.from e) passed
      go false e h₁ h₃ h (inl l) passed = let k = ltb-false p.to p.from e in absurd (omega arith)
      go false e h₁ h₃ h (inr l) passed = rearward xs p.size p.from p.to h₁ h₃ l.0 l.1 passed

  covered_earlier : (A B P C : List ℕ) → 1 ≤ length P → length P ≤ 3 → 1 ≤ length B → T (checks.passes (A ++ P ++ B ++ C))
      → Covered (or_opt last) checks (A ++ B ++ P ++ C) (A ++ P ++ B ++ C)
  covered_earlier A B P C h₁ h₃ hB passed =
      let xs = A ++ B ++ P ++ C in
      let to = length A in
      let from = length A + length B in
      let size = length P in
      let p : Piece = record { size = size; from = from; to = to } in
      let n : length xs ≡ length A + length B + length P + length C = simp length-append in
      let q : ltb to from ≡ true = lt-ltb to from (omega arith) in
      let is : put_before_lem xs p ≡ A ++ P ++ B ++ C =
      rw (q, put_before_lem) (rw (
        cut4_A A B P C to from (from + size) refl refl refl,
        cut4_B A B P C to from
            (from + size) refl refl refl,
        cut4_C A B P C to from (from + size) refl refl refl,
        cut4_D A B P C to from (from + size) refl refl refl,
      )) in
      record {
        move = p;
        tried = record { place = size; place_in = in_sizes size h₁ h₃; move_in = in_pieces last (length xs) size from to (omega arith) (inl (omega arith)) };
        passes = rw is (T_true (checks.passes (A ++ P ++ B ++ C)) passed);
        is = is;
      }

  covered_later : (A P B C : List ℕ) → 1 ≤ length P → length P ≤ 3 → 1 ≤ length B → length (A ++ P ++ B) ≤ last (length (A ++ P ++ B ++ C)) (length P)
      → T (checks.passes (A ++ B ++ P ++ C)) → Covered (or_opt last) checks (A ++ P ++ B ++ C) (A ++ B ++ P ++ C)
  covered_later A P B C h₁ h₃ hB reach passed =
      let xs = A ++ P ++ B ++ C in
      let from = length A in
      let size = length P in
      let to = length A + length P + length B in
      let p : Piece = record { size = size; from = from; to = to } in
      let n : length xs ≡ length A + length P + length B + length C = simp length-append in
      let m : length (A ++ P ++ B) ≡ to = simp length-append in
      let q : ltb to from ≡ false = le-ltb to from (omega arith) in
      let is : put_before_lem xs p ≡ A ++ B ++ P ++ C =
      rw (q, put_before_lem) (rw (
        cut4_A A P B C from (from + size) to refl refl refl,
        cut4_B A P B C from (from + size) to refl refl refl,
        cut4_C A P B C from
            (from + size) to refl refl refl,
        cut4_D A P B C from (from + size) to refl refl refl,
      )) in
      record {
        move = p;
        tried = record {
          place = size;
          place_in = in_sizes size h₁ h₃;
          move_in = in_pieces last (length xs) size from to (omega arith)
              (inr (omega arith, rw m at reach));
        };
        passes = rw is (T_true (checks.passes (A ++ B ++ P ++ C)) passed);
        is = is;
      }

  covers : (xs ys : List ℕ) → PieceMoved last checks.passes xs ys → Covered (or_opt last) checks xs ys
  covers xs ys (earlier A B P C h₁ h₃ hB passed) = covered_earlier A B P C h₁ h₃ hB passed
  covers xs ys (later A P B C h₁ h₃ hB reach passed) = covered_later A P B C h₁ h₃ hB reach passed

  pub or_opt_faithful : Faithful (or_opt last) checks
  or_opt_faithful = record { permits = permits; covers = covers; places_stay = λ xs ys m. refl }
