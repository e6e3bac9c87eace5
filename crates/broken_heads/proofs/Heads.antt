-- A head is driven on from where it ended, because a walk over a list goes on from where its first part ended; and two tours without a label are alike,
-- because neither finds one again. Assumes nothing.
use Prim.Native.Nat.{ℕ, ◌+◌, ◌<◌, ◌≤◌}
use native.Mathlib.Numerals.{add-one}
use native.Mathlib.Omega.{arith}
use mathlib.Core.Path.{◌≡◌, refl, sym, ap, ◌∙◌}
use mathlib.Core.Bool.{Bool, true, false, cond, ◌||◌, true≢false}
use mathlib.Core.List.{List, [], ◌∷◌, ◌++◌}
use lib.Dec.{eqb}
use lib.ListN.{length, get_or, take, drop, take-append-drop}
use lib.Seq.{slice, take-suc, take-take, drop-append-le, length-take-le}
use Rattle.std.specs.Prelude.{Option, Some, None, is_some}
use Rattle.numbers.specs.Operations.{zero64}
use Rattle.day.specs.declared.vehicle.VehicleBreak.{VehicleBreak}
use Rattle.labels.specs.Columns.{Columns}
use Rattle.labels.specs.Walk.{Tour, tour_of, onward, walk, walk_on, walk_keeps}
use Rattle.labels.specs.declared.label.Label.{Label}
use Rattle.break_clock.specs.Schedule.{begun, tick_break, home_break, Lost, any_left_of, stays_lost, home_lost}
use Rattle.break_clock.specs.declared.BreakClock.{BreakClock}
use Rattle.broken_heads.specs.Head.{reached_as, clock_of, tour_at, Alike, HeadOf, Drove}
use Rattle.broken_heads.specs.declared.MaybeLabel.{MaybeLabel}
use Rattle.broken_heads.specs.declared.BrokenHead.{BrokenHead}

-- ---- the labels of a head

-- a label is there
served_as : (kept : MaybeLabel) → eqb kept.there 1 ≡ is_some (reached_as kept)
unfolding reached_as
served_as kept = by_case (eqb kept.there 1)
  where
    by_case : (there : Bool) → there ≡ is_some (cond there (Some kept.label) None)
    by_case true = refl
    by_case false = refl

pub left_is : (head : BrokenHead) (left : Bool) → left ≡ eqb head.before.there 1 || eqb head.after.there 1 → left ≡ any_left_of (clock_of head)
unfolding any_left_of clock_of
left_is head left e = rw (← served_as head.before, ← served_as head.after) e

-- ---- tours that are alike

none_left : (before after : Option Label) → is_some before || is_some after ≡ false → (before ≡ None) × (after ≡ None)
none_left None None h = (refl, refl)
none_left None (Some label) h = absurd (true≢false h)
none_left (Some label) after h = absurd (true≢false h)

module _ (c : Columns) where
  pub alike_same : {t u : Tour BreakClock} → t ≡ u → Alike c t u
  alike_same e = record { same_end = λ depot rest. ap (λ (t : Tour BreakClock). home_break c depot (walk c (tick_break c) t rest)) e }

  pub alike_then : {t u v : Tour BreakClock} → Alike c t u → Alike c u v → Alike c t v
  alike_then p q = record { same_end = λ depot rest. p.same_end depot rest ∙ q.same_end depot rest }

  -- and behind the same visits
  pub alike_on : (t u : Tour BreakClock) (list : List ℕ) → Alike c t u → Alike c (walk c (tick_break c) t list) (walk c (tick_break c) u list)
  alike_on t u list p = record {
    same_end = λ depot rest.
        ap (home_break c depot) (sym (walk_on c (tick_break c) t list rest)) ∙ p.same_end depot (list ++ rest)
        ∙ ap (home_break c depot) (walk_on c (tick_break c) u list rest);
  }

  lost_on : (t : Tour BreakClock) (list : List ℕ) → Lost t.clock → Lost (walk c (tick_break c) t list).clock
  lost_on t list h = walk_keeps c (tick_break c) Lost (stays_lost c) list t h

  alike_lost : (t u : Tour BreakClock) → Lost t.clock → Lost u.clock → Alike c t u
  alike_lost t u g h = record {
    same_end = λ depot rest.
        sym (home_lost c depot (walk c (tick_break c) t rest) (lost_on t rest g)) ∙ home_lost c depot (walk c (tick_break c) u rest) (lost_on u rest h);
  }

-- ---- a drive

-- a list's first visits, cut in two
front_and_on : (list : List ℕ) (i k : ℕ) → i ≤ k → take i list ++ slice i k list ≡ take k list
front_and_on list i k h = rw (← take-take i k list h) (take-append-drop i (take k list))

-- a stretch with one visit more
stretch_more : (list : List ℕ) (from i : ℕ) → from ≤ i → i < length list → slice from (i + 1) list ≡ slice from i list ++ (get_or list i 0 ∷ [])
stretch_more list from i h k =
    rw (add-one i, take-suc list i 0 k) (drop-append-le from (take i list) (get_or list i 0 ∷ []) (omega (arith, h, k, length-take-le i list (omega arith))))

-- a stretch cut in two
slice_cut : (list : List ℕ) (from k to : ℕ) → from ≤ k → k ≤ to → to ≤ length list → slice from to list ≡ slice from k list ++ slice k to list
slice_cut list from k to h g t =
    sym (ap (drop from) (front_and_on list k to g))
    ∙ drop-append-le from (take k list) (slice k to list) (omega (arith, h, length-take-le k list (omega arith)))

module _ (c : Columns) (start head : BrokenHead) (list : List ℕ) (from i : ℕ)
    (so_far : walk c (tick_break c) (tour_at start) (slice from i list) ≡ tour_at head) where
  -- one visit more
  pub drive_turns : (next : BrokenHead) (visit : ℕ) → from ≤ i → i < length list → visit ≡ get_or list i 0 →
      tour_at next ≡ onward c (tick_break c) (tour_at head) visit → walk c (tick_break c) (tour_at start) (slice from (i + 1) list) ≡ tour_at next
  drive_turns next visit g h e f =
      ap (walk c (tick_break c) (tour_at start)) (stretch_more list from i g h)
      ∙ walk_on c (tick_break c) (tour_at start) (slice from i list) (get_or list i 0 ∷ [])
      ∙ ap (λ (t : Tour BreakClock). onward c (tick_break c) t (get_or list i 0)) so_far ∙ rw (← e) (sym f)

  -- no label is left
  pub drive_stops : (to : ℕ) (left : Bool) → from ≤ i → i ≤ to → to ≤ length list → left ≡ any_left_of (clock_of head) → left ≡ false →
      Alike c (walk c (tick_break c) (tour_at start) (slice from to list)) (tour_at head)
  unfolding any_left_of
  drive_stops to left g h t e f =
      let lost = none_left (clock_of head).before (clock_of head).after (sym e ∙ f) in
      alike_then c (alike_same c parts)
      (alike_lost c (walk c (tick_break c) (tour_at head) (slice i to list)) (tour_at head) (lost_on c (tour_at head) (slice i to list) lost) lost)
    where
      parts : walk c (tick_break c) (tour_at start) (slice from to list) ≡ walk c (tick_break c) (tour_at head) (slice i to list)
      parts =
          ap (walk c (tick_break c) (tour_at start)) (slice_cut list from i to g h t)
          ∙ walk_on c (tick_break c) (tour_at start) (slice from i list) (slice i to list)
          ∙ ap (λ (u : Tour BreakClock). walk c (tick_break c) u (slice i to list)) so_far

-- ---- a head

module _ (c : Columns) (pause : VehicleBreak) (depot : ℕ) (list : List ℕ) where
  -- the van at the depot is the head of no visits
  pub head_starts : (head : BrokenHead) → depot < c.l → tour_at head ≡ tour_of zero64 (begun pause depot) depot → head.place ≡ depot → head.index ≡ 0 →
      HeadOf c pause depot list 0 head
  head_starts head h e f g = record { placed = rw f h; counted = omega (arith, g); alike = alike_same c (sym e) }

  -- a head driven on is a head
  pub head_on : (from to : ℕ) (head next : BrokenHead) → from ≤ to → HeadOf c pause depot list from head → Drove c head list from to next →
      HeadOf c pause depot list to next
  head_on from to head next h is drove = record {
    placed = drove.placed;
    counted = omega (arith, h, is.counted, drove.counted);
    alike = alike_then c (alike_same c parts) (alike_then c (alike_on c _ (tour_at head) (slice from to list) is.alike) drove.alike);
  }
    where
      start : Tour BreakClock
      start = tour_of zero64 (begun pause depot) depot

      parts : walk c (tick_break c) start (take to list) ≡ walk c (tick_break c) (walk c (tick_break c) start (take from list)) (slice from to list)
      parts =
          ap (walk c (tick_break c) start) (sym (front_and_on list from to h))
          ∙ walk_on c (tick_break c) start (take from list) (slice from to list)
