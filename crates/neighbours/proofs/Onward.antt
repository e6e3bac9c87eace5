-- What is left of the enumeration after one neighbour: the ranges of its loops shrink from the inside out. Assumes nothing.
use mathlib.Core.Path.{◌≡◌, refl, sym, ap, ◌∙◌}
use mathlib.Core.Logic.{◌⊎◌, inl, inr}
use mathlib.Core.Bool.{false}
use mathlib.Core.List.{[], ◌∷◌, ◌++◌, map, append_assoc}
use Prim.Native.Nat.{ℕ, zero, suc, ◌+◌, ◌-◌, ◌≤◌, ◌<◌}
use native.Mathlib.Numerals.{add-one}
use native.Mathlib.Omega.{arith}
use borrow.Author.Tests.{lt-ltb, le-ltb, le-leb, lt-leb}
use lib.Seq.{drop-cons}
use Rattle.std.specs.Prelude.{Option, Some, None}
use Rattle.descent.specs.Order.{from_on, range, each}
use Rattle.descent.specs.Permitted.{seven}
use Rattle.descent.specs.Within.{pieces, cuts}
use Rattle.descent.proofs.Loops.{range_step, range_done, rows_from, reversals_turn}
use Rattle.neighbours.specs.Neighbours.{neighbours, reversal, relocation, reconnection, ways, to_the_end}
use Rattle.layouts.specs.Layout.{nth_way}
use Rattle.neighbours.specs.Places.{Place, Turned, Moved, Reconnected, meant, Inside, InsideAny, onward, rest, Follows, tos_from, piece_row, pieces_from, firsts_from}
use Rattle.layouts.specs.Layout.{nth_way}
use Rattle.neighbours.specs.Places.{cuts_from, reconnections_from}
use Rattle.neighbours.specs.Neighbours.{Reconnect}

-- ---- reversals

pub turned-first : (n i : ℕ) → i + 1 < n → (rest n (Some (Turned i (i + 1))) ≡ map reversal (rows_from n i)) × InsideAny n (Some (Turned i (i + 1)))
unfolding rest onward InsideAny Inside
turned-first n i h = (rw (add-one, range_step i (n - 1) (omega arith)), (omega arith, h))

pub turned_none : (n i : ℕ) → n ≤ i + 1 → (rest n None ≡ map reversal (rows_from n i)) × InsideAny n None
unfolding rest InsideAny
turned_none n i h = (rw (range_done i (n - 1) (omega arith)), tt)

pub turned_on : (n first last : ℕ) → Inside n (Turned first last) → last + 1 < n → Follows n (Turned first last) (Some (Turned first (last + 1)))
unfolding rest onward meant InsideAny Inside
turned_on n first last w h = record { same = rw add-one (ap (map reversal) (reversals_turn n first last w.1)); inside = (omega arith, h) }

pub turned-row : (n first last : ℕ) (r : Option Place) → Inside n (Turned first last) → n ≤ last + 1
    → (rest n r ≡ map reversal (rows_from n (first + 1))) × InsideAny n r → Follows n (Turned first last) r
unfolding onward meant Inside
turned-row n first last r w h (left, inside) = record {
  same = ap (map reversal) (reversals_turn n first last w.1)
      ∙ rw (range_done (suc last) n (omega arith), left, add-one);
  inside = inside;
}

-- ---- relocations

-- a piece as long as the list has nowhere to go
no_pieces : (n size : ℕ) → n ≤ size → pieces to_the_end n size ≡ []
no_pieces n size h =
    let none : n - size ≡ 0 = omega arith in
    rw (none, range_done (suc (0 + size)) (suc n) (omega arith))

no_sizes : (n size count : ℕ) → n ≤ size → each (from_on size count) (pieces to_the_end n) ≡ []
no_sizes n size zero h = refl
no_sizes n size (suc count) h = rw (no_pieces n size h) (no_sizes n (suc size) count (omega arith))

tos_before : (n size from to : ℕ) → to < from → tos_from n size from to ≡ range to from ++ range (suc (from + size)) (suc n)
tos_before n size from to h = rw (lt-ltb to from h, tos_from)

tos_behind : (n size from to : ℕ) → from ≤ to → tos_from n size from to ≡ range to (suc n)
tos_behind n size from to h = rw (le-ltb to from h, tos_from)

one_size : (n size : ℕ) → size < 4 → size < n → pieces_from n size 0 (size + 1) ≡ each (range size 4) (pieces to_the_end n)
one_size n size h k =
    let none : 0 + size ≡ size = omega arith in
    rw (
      add-one size,
      tos_behind n size 0 (suc size) (omega arith),
      range_step size 4 h,
      range_step 0 (suc (n - size)) (omega arith),
      append_assoc (piece_row n size 0) (each (range 1 (suc (n - size))) (piece_row n size)) (each (range (suc size) 4) (pieces to_the_end n)),
      none,
    )

pub moved_first : (n size : ℕ) → 1 ≤ size → size < 4 → size < n
    → (rest n (Some (Moved size 0 (size + 1))) ≡ map relocation (each (range size 4) (pieces to_the_end n))) × InsideAny n (Some (Moved size 0 (size + 1)))
unfolding rest onward InsideAny Inside
moved_first n size o h k = (ap (map relocation) (one_size n size h k), (o, omega arith, omega arith, inr (omega arith), omega arith))

pub moved_none : (n size : ℕ) → (4 ≤ size) ⊎ (n ≤ size)
    → (rest n None ≡ map relocation (each (range size 4) (pieces to_the_end n))) × InsideAny n None
unfolding rest InsideAny
moved_none n size (inl h) = (rw (range_done size 4 h), tt)
moved_none n size (inr h) = (sym (ap (map relocation) (no_sizes n size (4 - size) h)), tt)

-- the place to go to after `to`
abbrev Next : ℕ → ℕ → ℕ → ℕ → Type 0
Next size from to next = ((to + 1 ≡ from) × (next ≡ from + size + 1)) ⊎ (((to + 1 ≡ from) → ⊥) × (next ≡ to + 1))

not_last : (to from : ℕ) → ((to + 1 ≡ from) → ⊥) → to < from → to + 1 < from
not_last to from more before = omega arith

to_on : (n size from to next : ℕ) → Inside n (Moved size from to) → Next size from to next → next ≤ n
    → (tos_from n size from to ≡ to ∷ tos_from n size from next) × ((next < from) ⊎ (from + size < next))
unfolding Inside
to_on n size from to next (one, three, fits, inl before, end) (inl (last, is)) h =
    let past : next ≡ suc (from + size) = omega arith in (
      rw (tos_before n size from to before, tos_behind n size from next (omega arith), range_step to from before, range_done (suc to) from (omega arith), past),
      inr (omega arith),
    )
to_on n size from to next (one, three, fits, inl before, end) (inr (more, is)) h =
    let past : next ≡ suc to = omega arith in
    let still : next < from = omega (arith, not_last to from more before) in
    (rw (tos_before n size from to before, tos_before n size from next still, range_step to from before, past), inl still)
to_on n size from to next (one, three, fits, inr behind, end) (inl (last, is)) h = absurd (omega arith)
to_on n size from to next (one, three, fits, inr behind, end) (inr (more, is)) h =
    let past : next ≡ suc to = omega arith in
    (rw (tos_behind n size from to (omega arith), tos_behind n size from next (omega arith), range_step to (suc n) (omega arith), past), inr (omega arith))

to_last : (n size from to next : ℕ) → Inside n (Moved size from to) → Next size from to next → n < next → tos_from n size from to ≡ to ∷ []
unfolding Inside
to_last n size from to next (one, three, fits, inl before, end) (inl (last, is)) h =
    rw (
      tos_before n size from to before,
      range_step to from before,
      range_done (suc to) from (omega arith),
      range_done (suc (from + size)) (suc n) (omega arith),
    )
to_last n size from to next (one, three, fits, inl before, end) (inr (more, is)) h = absurd (omega (arith, not_last to from more before))
to_last n size from to next (one, three, fits, inr behind, end) (inl (last, is)) h = absurd (omega arith)
to_last n size from to next (one, three, fits, inr behind, end) (inr (more, is)) h =
    rw (tos_behind n size from to (omega arith), range_step to (suc n) (omega arith), range_done (suc to) (suc n) (omega arith))

module _ (n size from to next : ℕ) (w : Inside n (Moved size from to)) (e : Next size from to next) where
  pub moved_on : next ≤ n → Follows n (Moved size from to) (Some (Moved size from next))
  unfolding rest onward meant InsideAny Inside
  moved_on h =
      let on = to_on n size from to next w e h in
      record { same = rw on.0; inside = (w.0, w.1, w.2, on.1, h) }

  pub moved_row : n < next → from + size < n → Follows n (Moved size from to) (Some (Moved size (from + 1) 0))
  unfolding rest onward meant InsideAny Inside
  moved_row h k = record {
    same = rw (
      to_last n size from to next w e h,
      add-one from,
      range_step (suc from) (suc (n - size)) (omega arith),
      tos_before n size (suc from) 0 (omega arith),
      append_assoc (piece_row n size (suc from)) (each (range (suc (suc from)) (suc (n - size))) (piece_row n size))
          (each (range (suc size) 4) (pieces to_the_end n)),
    );
    inside = (w.0, w.1, omega arith, inl (omega arith), omega arith);
  }

  pub moved_size : (r : Option Place) → n < next → n ≤ from + size
      → (rest n r ≡ map relocation (each (range (size + 1) 4) (pieces to_the_end n))) × InsideAny n r → Follows n (Moved size from to) r
  unfolding onward meant
  moved_size r h k (left, inside) = record {
    same = rw (to_last n size from to next w e h, range_done (suc from) (suc (n - size)) (omega arith), left, add-one);
    inside = inside;
  }

-- ---- reconnections

first-cut : (n i : ℕ) → suc (suc i) < n
    → firsts_from n i ≡ record { i = i; j = suc i; k = suc (suc i) } ∷ cuts_from n i (suc i) (suc (suc (suc i)))
first-cut n i h =
    rw (range_step i (n - 2) (omega arith), range_step (suc i) (n - 1) (omega arith), range_step (suc (suc i)) n h, append_assoc)

pub cut-first : (n i : ℕ) → i + 2 < n
    → (rest n (Some (Reconnected i (i + 1) (i + 2) 0)) ≡ map reconnection (each (firsts_from n i) ways)) × InsideAny n (Some (Reconnected i (i + 1) (i + 2) 0))
unfolding rest onward InsideAny Inside
cut-first n i h =
    let two : i + 2 ≡ suc (suc i) = omega arith in (
      ap (λ j. map reconnection (reconnections_from n i j (i + 2) 0)) (add-one i)
          ∙ ap (λ k. map reconnection (reconnections_from n i (suc i) k 0)) two
          ∙ rw (first-cut n i (omega arith)),
      (omega arith, omega arith, h, omega arith),
    )

pub cut_none : (n i : ℕ) → n ≤ i + 2 → (rest n None ≡ map reconnection (each (firsts_from n i) ways)) × InsideAny n None
unfolding rest InsideAny
cut_none n i h = (rw (range_done i (n - 2) (omega arith)), tt)

module _ (n i j k way : ℕ) (w : Inside n (Reconnected i j k way)) where
  pub way_on : way < 6 → Follows n (Reconnected i j k way) (Some (Reconnected i j k (way + 1)))
  unfolding rest onward meant InsideAny Inside
  way_on h = record { same = rw (add-one, drop-cons seven way (false, false, false) w.3); inside = (w.0, w.1, w.2, omega arith) }

  last-way : 6 ≤ way → reconnections_from n i j k way
      ≡ record { cut = record { i = i; j = j; k = k }; way = nth_way way } ∷ each (cuts_from n i j (suc k)) ways
  unfolding Inside
  last-way h = let six : way ≡ 6 = omega arith in rw six

  pub cut_on : 6 ≤ way → k + 1 < n → Follows n (Reconnected i j k way) (Some (Reconnected i j (k + 1) 0))
  unfolding rest onward meant InsideAny Inside
  cut_on h l = record {
    same = ap (map reconnection) (last-way h) ∙ rw (add-one, range_step (suc k) n (omega arith));
    inside = (w.0, omega arith, l, omega arith);
  }

  next_row : n ≤ k + 1 → j + 2 < n
      → cuts_from n i j (suc k) ≡ record { i = i; j = suc j; k = suc (suc j) } ∷ cuts_from n i (suc j) (suc (suc (suc j)))
  next_row l m =
      rw (range_done (suc k) n (omega arith), range_step (suc j) (n - 1) (omega arith), range_step (suc (suc j)) n (omega arith), append_assoc)

  pub cut-row : 6 ≤ way → n ≤ k + 1 → j + 2 < n → Follows n (Reconnected i j k way) (Some (Reconnected i (j + 1) (j + 2) 0))
  unfolding rest onward meant InsideAny Inside
  cut-row h l m =
      let two : j + 2 ≡ suc (suc j) = omega arith in
      record {
        same = ap (map reconnection) (last-way h)
            ∙ (rw (next_row l m))
            ∙ ap (λ t. meant (Reconnected i j k way) ∷ map reconnection (reconnections_from n i (suc j) t 0)) (sym two)
            ∙ ap (λ o. meant (Reconnected i j k way) ∷ map reconnection (reconnections_from n i o (j + 2) 0)) (sym (add-one j));
        inside = (omega arith, omega arith, m, omega arith);
      }

  pub cut_rows : (r : Option Place) → 6 ≤ way → n ≤ k + 1 → n ≤ j + 2
      → (rest n r ≡ map reconnection (each (firsts_from n (i + 1)) ways)) × InsideAny n r → Follows n (Reconnected i j k way) r
  unfolding onward meant
  cut_rows r h l m (left, inside) = record {
    same = ap (map reconnection) (last-way h) ∙ rw (range_done (suc k) n (omega arith), range_done (suc j) (n - 1) (omega arith), left, add-one);
    inside = inside;
  }

-- lists of four or more
pub cuts-few : (n : ℕ) → n < 4 → (rest n None ≡ neighbours Reconnect n) × InsideAny n None
unfolding rest InsideAny neighbours
cuts-few n h = (rw (lt-leb 4 n h, cuts), tt)

pub cuts_many : (n : ℕ) (r : Option Place) → 4 ≤ n → (rest n r ≡ map reconnection (each (firsts_from n 0) ways)) × InsideAny n r
    → (rest n r ≡ neighbours Reconnect n) × InsideAny n r
unfolding neighbours
cuts_many n r h (left, inside) = (rw (le-leb 4 n h, cuts) left, inside)
