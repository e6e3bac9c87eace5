-- The two lists of a move at the front of a buffer: the giver is its head and its tail; the receiver has the visit in front of all others, and a swap with
-- the visit behind it puts it one place on. Assumes nothing.
use mathlib.Core.Path.{◌≡◌, refl, sym, ap, ◌∙◌}
use mathlib.Core.List.{List, [], ◌∷◌, ◌++◌, append_assoc}
use Prim.Native.Nat.{ℕ, suc, ◌+◌, ◌-◌, ◌≤◌, ◌<◌}
use native.Mathlib.Numerals.{add-one}
use native.Mathlib.Omega.{arith}
use lib.ListN.{length, get_or, take, drop, take-append-drop, length-drop}
use lib.Seq.{slice, take-suc, take-take, take_at, take-append-le, take-append_seam, drop-cons, drop_at, get_or-drop, length-take-le}
use Rattle.edits.specs.Edits.{swapped, without, inserted}
use Rattle.edits.proofs.Kept.{length_inserted}
use Rattle.edits.proofs.Cuts.{to_end, lent}
use Rattle.day.specs.declared.vehicle.RouteLimits.{RouteLimits}
use Rattle.labels.specs.Columns.{Columns, Visits}
use Rattle.evaluation.specs.Route.{effective_cost}
use Rattle.heads.specs.Head.{Driven}
use Rattle.heads.specs.declared.Head.{Head}
use Rattle.head_prices.specs.Prices.{price_from}
use Rattle.head_prices.proofs.Prices.{from_head}

-- ---- in a buffer

-- the head and the tail
pub removed : (xs : List ℕ) (position : ℕ) {head all : List ℕ} → head ≡ slice 0 position xs → all ≡ head ++ slice (position + 1) (length xs) xs
    → all ≡ without xs position
removed xs position e f = rw (f, e, to_end (position + 1) xs, add-one position)

-- neighbours that change places
swap_next : (e z : List ℕ) (x y : ℕ) → swapped (length e) (suc (length e)) (e ++ x ∷ y ∷ z) ≡ e ++ y ∷ x ∷ z
unfolding swapped
swap_next [] z x y = refl
swap_next (c ∷ e) z x y = ap (λ (l : List ℕ). c ∷ l) (swap_next e z x y)

-- the visit goes one place on
pub stepped : (xs : List ℕ) (visit place end : ℕ) (buffer : List ℕ) → place < length xs → end ≡ suc (length xs)
    → take end buffer ≡ inserted xs visit place → take end (swapped place (place + 1) buffer) ≡ inserted xs visit (place + 1)
stepped xs visit place end buffer h is-end laid =
    let A : List ℕ = take place xs in
    let x : ℕ = get_or xs place 0 in
    let B : List ℕ = drop (suc place) xs in
    let back : List ℕ = drop end buffer in
    let long : length A ≡ place = length-take-le place xs (omega arith) in
    let was : buffer ≡ A ++ visit ∷ x ∷ (B ++ back) =
    sym (take-append-drop end buffer) ∙ ap (λ (ys : List ℕ). ys ++ back) (laid ∙ ap (λ (ys : List ℕ). A ++ visit ∷ ys) (drop-cons xs place 0 h))
    ∙ append_assoc A (visit ∷ x ∷ B) back in
    let swaps : swapped place (place + 1) buffer ≡ A ++ x ∷ visit ∷ (B ++ back) =
    ap (swapped place (place + 1)) was ∙ rw (add-one place) (rw long at (swap_next A (B ++ back) visit x)) in
    let is : inserted xs visit (place + 1) ≡ A ++ x ∷ visit ∷ B =
    rw (add-one place, take-suc xs place 0 h) (append_assoc A (x ∷ []) (visit ∷ B)) in
    let size : end ≡ length (inserted xs visit (place + 1)) = is-end ∙ sym (length_inserted xs visit (place + 1)) in
    ap (take end) (swaps ∙ sym (append_assoc A (x ∷ visit ∷ B) back) ∙ ap (λ (ys : List ℕ). ys ++ back) (sym is))
    ∙ ap (λ (n : ℕ). take n (inserted xs visit (place + 1) ++ back)) size ∙ take-append_seam (inserted xs visit (place + 1)) back

-- ---- priced from a head on

-- visits behind a place are visits
visits_behind : (l from : ℕ) (xs : List ℕ) → Visits l xs → Visits l (drop from xs)
visits_behind l from xs v =
    let long : length (drop from xs) ≡ length xs - from = length-drop from xs in
    record {
      few = omega (arith, long, v.few);
      below = λ k h. rw (get_or-drop from xs k 0) (v.below (from + k) (omega (arith, long)));
    }

-- the part of a list behind a position, lent
tail_lent : (xs : List ℕ) (position : ℕ) → position < length xs → take (length xs - (position + 1)) (drop (position + 1) xs) ≡ drop (suc position) xs
tail_lent xs position h = lent (position + 1) (length xs) xs (omega arith) ∙ to_end (position + 1) xs ∙ rw (add-one position)

pub tail_visits : (l : ℕ) (xs : List ℕ) (position : ℕ) → Visits l xs → position < length xs
    → Visits l (take (length xs - (position + 1)) (drop (position + 1) xs))
tail_visits l xs position v h = rw (tail_lent xs position h) (visits_behind l (suc position) xs v)

-- a part of a buffer with a list at its front, lent
part_lent : (from end : ℕ) (buffer ys : List ℕ) → from ≤ end → take end buffer ≡ ys → take (end - from) (drop from buffer) ≡ drop from ys
part_lent from end buffer ys h e = lent from end buffer h ∙ ap (drop from) e

pub part_visits : (l from end : ℕ) (buffer ys : List ℕ) → from ≤ end → take end buffer ≡ ys → Visits l ys → Visits l (take (end - from) (drop from buffer))
part_visits l from end buffer ys h e v = rw (part_lent from end buffer ys h e) (visits_behind l from ys v)

module _ (c : Columns) (limits : RouteLimits) (depot : ℕ) (xs : List ℕ) (head : Head) (driven : Driven c limits.rest depot xs head) where
  -- the list without a visit, where the head ends before that
  pub price_without_is : (position : ℕ) → position < length xs → head.visits ≡ position
      → price_from c limits depot head (take (length xs - (position + 1)) (drop (position + 1) xs)) ≡ effective_cost c limits depot (without xs position)
  price_without_is position h at_cut =
      let long = length-take-le position xs (omega arith) in
      let behind : drop head.visits (without xs position) ≡ drop (suc position) xs = rw
      (at_cut, drop_at (take position xs) (drop (suc position) xs) position long) in
      let kept : take head.visits (without xs position) ≡ take head.visits xs =
      rw (at_cut, take_at (take position xs) (drop (suc position) xs) position long) in
      ap (price_from c limits depot head) (tail_lent xs position h ∙ sym behind) ∙ from_head c limits depot xs (without xs position) head driven kept

  -- the list with a visit put in behind the head, laid at the front of a buffer
  pub price_inserted : (visit place end : ℕ) (buffer : List ℕ) → (head.visits ≤ place) × (place ≤ length xs) → end ≡ length xs + 1
      → take end buffer ≡ inserted xs visit place
      → price_from c limits depot head (take (end - head.visits) (drop head.visits buffer)) ≡ effective_cost c limits depot (inserted xs visit place)
  price_inserted visit place end buffer within is-end laid =
      let long = length-take-le place xs within.1 in
      let kept : take head.visits (inserted xs visit place) ≡ take head.visits xs =
      take-append-le head.visits (take place xs) (visit ∷ drop place xs) (omega (arith, long, within.0)) ∙ take-take head.visits place xs
      within.0 in
      ap (price_from c limits depot head) (part_lent head.visits end buffer (inserted xs visit place) (omega (arith, is-end, within.0, within.1)) laid)
      ∙ from_head c limits depot xs (inserted xs visit place) head driven kept
