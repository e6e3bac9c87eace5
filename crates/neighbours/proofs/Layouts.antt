-- Every neighbour is a layout of the list, so it keeps the list's visits and its head. Assumes nothing.
use mathlib.Core.Path.{◌≡◌, sym, ap, ◌∙◌}
use mathlib.Core.Logic.{inl, inr}
use mathlib.Core.Bool.{true, false}
use mathlib.Core.List.{List, ◌++◌, append_assoc}
use Prim.Native.Nat.{ℕ, ◌+◌, ◌-◌, ◌≤◌, ◌<◌}
use native.Mathlib.Numerals.{add-one}
use native.Mathlib.Omega.{arith}
use borrow.Author.Tests.{lt-ltb, le-ltb}
use native.Mathlib.Nat.{sub-zero}
use lib.ListN.{length, take, drop, length-drop}
use lib.Seq.{slice, get_or-drop}
use Rattle.edits.specs.Edits.{reversed}
use Rattle.labels.specs.Columns.{Visits}
use Rattle.descent.specs.Within.{put_before_lem}
use Rattle.neighbours.specs.Neighbours.{made}
use Rattle.neighbours.specs.Places.{Place, Turned, Moved, Reconnected, meant, Inside, Lays}
use Rattle.layouts.specs.Layout.{nth_way, layout, laid}
use Rattle.layouts.specs.declared.Layout.{Layout}
use Rattle.layouts.proofs.Layouts.{laid_visits, head_kept, reversal_cut, reversal_is, reconnection_cut, reconnection_is}

-- ---- the neighbour at each place

pub lays_turned : (n first last : ℕ) → Inside n (Turned first last) → Lays n (Turned first last) (layout first (last + 1) (last + 1) (false, true, false))
unfolding Inside made meant reversed
lays_turned n first last w = record {
  within = reversal_cut n first (last + 1) (omega arith) (omega arith);
  same = λ list. reversal_is list first (last + 1) ∙ rw (add-one last);
}

pub lays_earlier : (n size from to : ℕ) → Inside n (Moved size from to) → to < from
    → Lays n (Moved size from to) (layout to from (from + size) (true, false, false))
unfolding Inside laid made meant
lays_earlier n size from to w h = record {
  within = record { b_c = omega arith; c_d = omega arith; d_n = w.2 };
  same = λ list. ap (λ (l : List ℕ). l ++ drop (from + size) list) (sym (append_assoc (take to list) (slice from (from + size) list) (slice to from list)))
      ∙ rw (lt-ltb to from h, put_before_lem);
}

pub lays_later : (n size from to : ℕ) → Inside n (Moved size from to) → from ≤ to
    → Lays n (Moved size from to) (layout from (from + size) to (true, false, false))
unfolding Inside laid made meant
lays_later n size from to (one, three, fits, inl before, end) h = absurd (omega arith)
lays_later n size from to (one, three, fits, inr behind, end) h = record {
  within = record { b_c = omega arith; c_d = omega arith; d_n = end };
  same = λ list. ap (λ (l : List ℕ). l ++ drop to list) (sym (append_assoc (take from list) (slice (from + size) to list) (slice from (from + size) list)))
      ∙ rw (le-ltb to from h, put_before_lem);
}

pub lays_reconnected : (n i j k way : ℕ) → Inside n (Reconnected i j k way) → Lays n (Reconnected i j k way) (layout (i + 1) (j + 1) (k + 1) (nth_way way))
unfolding Inside made meant
lays_reconnected n i j k way w = record {
  within = reconnection_cut n i j k (nth_way way) w.0 w.1 w.2;
  same = λ list. reconnection_is list i j k (nth_way way);
}

-- ---- what a neighbour keeps

-- the neighbour's visits
pub made_visits : (l n : ℕ) (list : List ℕ) (place : Place) (p : Layout) → Lays n place p → Visits l list → Visits l (made list (meant place))
made_visits l n list place p lays v = rw (lays.same list) at (laid_visits l n list p lays.within v)

-- every neighbour has a layout, so it keeps the visits
layout_for : (n : ℕ) (place : Place) → Inside n place → (p : Layout) × Lays n place p
unfolding Inside
layout_for n (Turned first last) w = (_, lays_turned n first last w)
layout_for n (Moved size from to) (one, three, fits, inl before, end) = (_, lays_earlier n size from to (one, three, fits, inl before, end) before)
layout_for n (Moved size from to) (one, three, fits, inr behind, end) = (_, lays_later n size from to (one, three, fits, inr behind, end) (omega arith))
layout_for n (Reconnected i j k way) w = (_, lays_reconnected n i j k way w)

pub made_kept : (l : ℕ) (list : List ℕ) (place : Place) → Inside (length list) place → Visits l list → Visits l (made list (meant place))
made_kept l list place w v = let p = layout_for (length list) place w in made_visits l (length list) list place p.0 p.1 v

-- ---- a list laid out in a buffer

-- the part of the buffer in use, `&buffer[0..count]`, is the neighbour from a place on
pub part_is : (n from : ℕ) (list buffer : List ℕ) (place : Place) (p : Layout) → Lays n place p → take (n - from) buffer ≡ drop from (laid list p)
    → take ((n - from) - 0) (drop 0 buffer) ≡ drop from (made list (meant place))
part_is n from list buffer place p lays e = ap (λ (k : ℕ). take k buffer) (sub-zero (n - from)) ∙ e ∙ ap (drop from) (lays.same list)

-- the neighbour shares the head
pub shares : (from : ℕ) (list : List ℕ) (place : Place) (p : Layout) → Lays (length list) place p → from ≤ p.b
    → take from (made list (meant place)) ≡ take from list
shares from list place p lays h = ap (take from) (sym (lays.same list)) ∙ head_kept from list p lays.within h

-- visits behind a place are visits
pub visits_behind : (l from : ℕ) (list : List ℕ) → Visits l list → Visits l (drop from list)
visits_behind l from list v =
    let long : length (drop from list) ≡ length list - from = length-drop from list in
    record {
      few = omega (arith, long, v.few);
      below = λ k h. rw (get_or-drop from list k 0) (v.below (from + k) (omega (arith, long)));
    }
