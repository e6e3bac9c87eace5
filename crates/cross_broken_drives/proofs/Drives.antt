-- A candidate's visits by position, and what its drive knows at each: the walk so far, and behind its stretch's begin the head that was kept there. Assumes
-- nothing.
use Prim.Native.Nat.{ℕ, ◌+◌, ◌-◌, ◌<◌, ◌≤◌}
use native.Mathlib.Omega.{arith}
use mathlib.Core.Path.{◌≡◌, refl, sym, ap, ◌∙◌}
use mathlib.Core.Bool.{Bool, false}
use mathlib.Core.Logic.{◌≢◌}
use mathlib.Core.List.{List, ◌++◌}
use lib.ListN.{length, get_or, take, drop, length-append, get_or-append}
use lib.Seq.{slice, slice_empty, length-slice, length-take-le, get_or-take, get_or-drop, get_or-append-add}
use Rattle.labels.specs.Columns.{Columns, Visits}
use Rattle.labels.specs.Walk.{onward, walk}
use Rattle.break_clock.specs.Schedule.{tick_break, any_left_of}
use Rattle.descent.proofs.Below.{over, Below, below_of}
use Rattle.loads.specs.Loads.{Two}
use Rattle.loads.proofs.Visits.{visits_of}
use Rattle.broken_heads.specs.Head.{clock_of, tour_at, Drove}
use Rattle.broken_heads.specs.declared.BrokenHead.{BrokenHead}
use Rattle.broken_heads.proofs.Heads.{alike_same, drive_turns, drive_stops}
use Rattle.cross_moves.specs.CrossDepot.{replaced}
use Rattle.cross_moves.proofs.Stretch.{in_three, total-replaced, length-changed}
use Rattle.cross_broken_drives.specs.Drive.{Driven}

-- ---- the visits of a candidate

-- behind the first of two lists
second : (xs ys : List ℕ) (n i : ℕ) → length xs ≡ n → n ≤ i → get_or (xs ++ ys) i 0 ≡ get_or ys (i - n) 0
second xs ys n i long h =
    let there : length xs + (i - n) ≡ i = omega (arith, long, h) in
    ap (λ (k : ℕ). get_or (xs ++ ys) k 0) (sym there) ∙ get_or-append-add xs ys (i - n) 0

module _ (list other : List ℕ) (from to from2 to2 : ℕ) (ordered : from ≤ to) (within : to ≤ length list) (ordered2 : from2 ≤ to2)
    (within2 : to2 ≤ length other) where
  abbrev part : List ℕ
  part = slice from2 to2 other

  length_head : length (take from list) ≡ from
  length_head = length-take-le from list (omega arith)

  length_front : length (take from list ++ part) ≡ from + (to2 - from2)
  length_front = simp length-append (omega (arith, length_head, length-slice from2 to2 other within2))

  -- before the stretch
  pub visit_before : (i : ℕ) → i < from → get_or list i 0 ≡ get_or (replaced list from to part) i 0
  visit_before i h =
      sym (get_or-append (take from list ++ part) (drop to list) 0 i (omega (arith, h, length_front))
      ∙ get_or-append (take from list) part 0 i (omega (arith, h, length_head)) ∙ get_or-take from list i 0 h)

  -- in the stretch
  pub visit_within : (i : ℕ) → from ≤ i → i - from < to2 - from2 → get_or other (from2 + (i - from)) 0 ≡ get_or (replaced list from to part) i 0
  visit_within i h k =
      sym (get_or-append (take from list ++ part) (drop to list) 0 i (omega (arith, h, k, length_front))
      ∙ second (take from list) part from i length_head h ∙ get_or-drop from2 (take to2 other) (i - from) 0
      ∙ get_or-take to2 other (from2 + (i - from)) 0 (omega (arith, k)))

  -- behind it
  pub visit_behind : (i : ℕ) → from ≤ i → to2 - from2 ≤ i - from →
      get_or list (to + (i - from - (to2 - from2))) 0 ≡ get_or (replaced list from to part) i 0
  visit_behind i h k =
      let there : i - (from + (to2 - from2)) ≡ i - from - (to2 - from2) = omega arith in
      sym (second (take from list ++ part) (drop to list) (from + (to2 - from2)) i length_front (omega (arith, h, k))
      ∙ get_or-drop to list (i - (from + (to2 - from2))) 0 ∙ ap (λ (n : ℕ). get_or list (to + n) 0) there)

  pub visits_changed : {l : ℕ} → Two l list other → Visits l (replaced list from to part)
  visits_changed {l} two =
      let x = below_of l list two.one_below in
      let y = below_of l other two.other_below in
      let ys = in_three (over l) other from2 to2 ordered2 in
      let new = total-replaced (over l) list from to part ordered in
      let none : Below l (replaced list from to part) = omega arith in
      visits_of l (replaced list from to part) (omega (arith, length-changed list other from to from2 to2 ordered within within2, two.few)) none

-- ---- a drive over a candidate

module _ (c : Columns) (start : BrokenHead) (whole : List ℕ) (driven from : ℕ) where
  -- what is known before the visit at i
  pub record Driving (kept head : BrokenHead) (i : ℕ) : Type 0 where
    pub behind : driven ≤ i
    pub within : i ≤ length whole
    pub placed : head.place < c.l
    pub counted : head.index + driven ≡ start.index + i
    pub so_far : walk c (tick_break c) (tour_at start) (slice driven i whole) ≡ tour_at head
    pub kept_there : from ≤ i → Drove c start whole driven from kept

  pub driving_starts : driven ≤ length whole → driven ≤ from → start.place < c.l → Driving start start driven
  driving_starts h g there = record {
    behind = omega arith;
    within = h;
    placed = there;
    counted = refl;
    so_far = begun_at driven;
    kept_there = λ beyond. record {
      placed = there;
      counted = omega arith;
      alike = alike_same c (ap (λ (k : ℕ). walk c (tick_break c) (tour_at start) (slice driven k whole)) (at_begin beyond) ∙ begun_at driven);
    };
  }
    where
      begun_at : (k : ℕ) → walk c (tick_break c) (tour_at start) (slice k k whole) ≡ tour_at start
      begun_at k = rw (slice_empty k whole)

      at_begin : from ≤ driven → from ≡ driven
      at_begin beyond = omega (arith, g, beyond)

  module _ (kept head : BrokenHead) (i : ℕ) (now : Driving kept head i) where
    -- one visit more
    module _ (next : BrokenHead) (visit : ℕ) (there : i < length whole) (location : visit < c.l) (is-visit : visit ≡ get_or whole i 0)
        (is-next : tour_at next ≡ onward c (tick_break c) (tour_at head) visit) (is-place : next.place ≡ visit) (is-index : next.index ≡ head.index + 1) where
      next_placed : next.place < c.l
      next_placed = rw is-place location

      next_counted : next.index + driven ≡ start.index + (i + 1)
      next_counted = omega (arith, now.counted, is-index)

      further : walk c (tick_break c) (tour_at start) (slice driven (i + 1) whole) ≡ tour_at next
      further = drive_turns c start head whole driven i now.so_far next visit now.behind there is-visit is-next

      turned : (later : BrokenHead) → (from ≤ i + 1 → Drove c start whole driven from later) → Driving later next (i + 1)
      turned later keeps = record {
        behind = omega (arith, now.behind);
        within = omega (arith, there);
        placed = next_placed;
        counted = next_counted;
        so_far = further;
        kept_there = keeps;
      }

      pub driving_turns : i + 1 ≢ from → Driving kept next (i + 1)
      driving_turns o = turned kept (λ beyond. now.kept_there (omega (arith, beyond, o)))

      -- the stretch begins: the head is kept
      pub driving_begins : i + 1 ≡ from → Driving next next (i + 1)
      driving_begins e = turned next (λ beyond. record {
        placed = next_placed;
        counted = omega (arith, next_counted, now.behind, e);
        alike = alike_same c (ap (λ (k : ℕ). walk c (tick_break c) (tour_at start) (slice driven k whole)) (sym e) ∙ further);
      })

    -- no label is left
    pub driving_stops : (left : Bool) → from ≤ i → left ≡ any_left_of (clock_of head) → left ≡ false →
        Driven c start whole driven from (record { head = kept; end = head })
    driving_stops left h e f = record {
      to_head = now.kept_there h;
      to_end = record {
        placed = now.placed;
        counted = omega (arith, now.behind, now.within, now.counted);
        alike = drive_stops c start head whole driven i now.so_far (length whole) left now.behind now.within (omega arith) e f;
      };
    }

    -- no visit is left
    pub driving_ends : from ≤ length whole → length whole ≤ i → Driven c start whole driven from (record { head = kept; end = head })
    driving_ends h e =
        let all : i ≡ length whole = omega (arith, e, now.within) in record {
          to_head = now.kept_there (omega (arith, h, e));
          to_end = record {
            placed = now.placed;
            counted = omega (arith, now.behind, now.counted, all);
            alike = alike_same c (ap (λ (k : ℕ). walk c (tick_break c) (tour_at start) (slice driven k whole)) (sym all) ∙ now.so_far);
          };
        }
