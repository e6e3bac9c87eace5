-- The heads of a list are kept from the depot on: what is read of one is the head, since a walk without a break leaves a label's position and start as they
-- were, and ends at the last visit. Assumes nothing.
use Prim.Native.Nat.{ℕ, zero, suc, ◌+◌, ◌-◌, ◌<◌, ◌≤◌}
use native.Mathlib.Numerals.{add-one}
use native.Mathlib.Omega.{arith}
use borrow.Author.Tests.{eqb-true, eqb-false}
use mathlib.Core.Path.{◌≡◌, refl, sym, ap, subst, ◌∙◌}
use mathlib.Core.Logic.{◌≢◌}
use mathlib.Core.Bool.{Bool, true, false, cond}
use mathlib.Core.List.{List, [], ◌∷◌}
use lib.Dec.{eqb}
use lib.ListN.{length, get_or, set, take, length-set}
use lib.Seq.{take-suc, get_or-set_same, get_or-set_other}
use lib.Ieee.{Float}
use Rattle.std.specs.Prelude.{Option, Some, None}
use Rattle.numbers.specs.Operations.{◌⊕◌, zero64}
use Rattle.day.specs.Customer.{is_violated, waiting_time, lateness_at}
use Rattle.day.specs.declared.customer.Window.{Window}
use Rattle.day.specs.declared.customer.Window.TheVariants.{Open, Hard, Soft}
use Rattle.labels.specs.Columns.{Columns, travel_in, stop_at}
use Rattle.labels.specs.Walk.{Tour, tour_of, onward, walk_on, walk_keeps}
use Rattle.labels.specs.Label.{at_start, in_time, too_late, served_in, served, served_from}
use Rattle.evaluation.specs.Route.{tick}
use Rattle.labels.specs.declared.label.Label.{Label}
use Rattle.heads.specs.Head.{at_depot, tour_at, Drove}
use Rattle.kept_heads.specs.Kept.{kept_of, nothing_kept, place_before, head_from, walked, Kept}
use Rattle.kept_heads.specs.declared.KeptHead.{KeptHead}
use Rattle.heads.specs.declared.Head.{Head}
use Rattle.heads.proofs.Heads.{walk_further}

-- ---- no break is taken

-- what a label says of the break: none is taken
abbrev Unrested : Option Label → Type 0
Unrested None = Unit
Unrested (Some label) = (label.position ≡ 0) × (label.start ≡ zero64)

unrested_in : (window : Window) (label : Label) (ready service : Float) → Unrested (Some label) → Unrested (served_in window label ready service)
unfolding served_in in_time too_late
unrested_in Open label ready service h = h
unrested_in (Hard span) label ready service h = by_test (is_violated span ready)
  where
    by_test : (b : Bool) → Unrested (cond b None (in_time label (ready ⊕ waiting_time span ready) service))
    by_test true = tt
    by_test false = h
unrested_in (Soft span penalty) label ready service h = by_test (is_violated span ready)
  where
    by_test : (b : Bool) → Unrested (cond b (too_late label (ready ⊕ waiting_time span ready) service (lateness_at span ready) penalty)
        (in_time label (ready ⊕ waiting_time span ready) service))
    by_test true = h
    by_test false = h

-- one visit more
unrested_tick : (c : Columns) (reached : Option Label) (place visit : ℕ) → Unrested reached → Unrested (tick c reached place visit)
unfolding served_from served
unrested_tick c None place visit h = tt
unrested_tick c (Some label) place visit h =
    unrested_in (stop_at c visit).window label (label.time ⊕ travel_in c place visit) (stop_at c visit).service h

module _ (c : Columns) (depot : ℕ) (list : List ℕ) where
  -- so the label of a head has taken none
  unrested_head : (k : ℕ) (head : Head) → walked c depot list k ≡ tour_at head → Unrested (Some head.label)
  unfolding at_start
  unrested_head k head e =
      subst Unrested (ap (λ (t : Tour (Option Label)). t.clock) e)
      (walk_keeps c (tick c) Unrested (unrested_tick c) (take k list) (tour_of zero64 (Some at_start) depot) (refl, refl))

  -- one visit more
  pub walked_more : (k : ℕ) → k < length list → walked c depot list (k + 1) ≡ onward c (tick c) (walked c depot list k) (get_or list k 0)
  walked_more k h =
      rw (add-one k, take-suc list k 0 h) (walk_on c (tick c) (tour_of zero64 (Some at_start) depot) (take k list) (get_or list k 0 ∷ []))

  -- a walk ends at the last visit
  walked-place : (k : ℕ) → k ≤ length list → (walked c depot list k).place ≡ place_before depot list k
  walked-place zero h = refl
  walked-place (suc k) h =
      subst (λ (n : ℕ). (walked c depot list n).place ≡ place_before depot list n) (add-one k)
      (ap (λ (t : Tour (Option Label)). t.place) (walked_more k (omega arith)) ∙ ap (λ (n : ℕ). place_before depot list n) (sym (add-one k)))

-- the last visit, behind one at least
pub place-behind : (depot : ℕ) (list : List ℕ) (k : ℕ) → k ≢ 0 → get_or list (k - 1) 0 ≡ place_before depot list k
place-behind depot list zero h = absurd (h refl)
place-behind depot list (suc k) h = ap (λ (n : ℕ). get_or list n 0) (omega arith)

-- ---- a head kept

-- a head, number by number
same_tour : (head : Head) (position : ℕ) (start : Float) (place : ℕ) → position ≡ head.label.position → start ≡ head.label.start → place ≡ head.place →
    tour_at head
    ≡ tour_of head.distance (Some (record {
      time = head.label.time;
      lateness = head.label.lateness;
      lateness_cost = head.label.lateness_cost;
      position = position;
      start = start;
    })) place
same_tour head position start place e0 e1 e2 = rw (e0, e1, e2)

module _ (heads : List KeptHead) (k : ℕ) (head : Head) (kept : KeptHead) (is : kept ≡ kept_of head) where
  module _ (long : k < length heads) where
    -- what is read is the head
    read_head : (c : Columns) (depot : ℕ) (list : List ℕ) → k ≤ length list → walked c depot list k ≡ tour_at head →
        walked c depot list k ≡ tour_at (head_from (get_or (set heads k kept) k nothing_kept) depot list k)
    read_head c depot list h e =
        let none = unrested_head c depot list k head e in
        let placed : head.place ≡ place_before depot list k = sym (ap (λ (t : Tour (Option Label)). t.place) e) ∙ walked-place c depot list k h in
        rw (get_or-set_same heads k kept nothing_kept long, is) (e ∙ same_tour head _ _ _ (sym none.0) (sym none.1) (sym placed))

-- ---- the heads are driven

module _ (c : Columns) (depot : ℕ) (list : List ℕ) where
  -- so far: the heads of the first k visits, the last of them at hand
  pub record Keeping (heads : List KeptHead) (head : Head) (k : ℕ) : Type 0 where
    pub within : k ≤ length list
    pub same_length : length heads ≡ 64
    pub placed : head.place < c.l
    pub at_hand : walked c depot list k ≡ tour_at head
    pub so_far : (j : ℕ) → j ≤ k → walked c depot list j ≡ tour_at (head_from (get_or heads j nothing_kept) depot list j)

  pub keeping_starts : (heads : List KeptHead) (head : Head) (kept : KeptHead) → depot < c.l → length heads ≡ 64 → head ≡ at_depot depot → kept ≡ kept_of head →
      Keeping (set heads 0 kept) head 0
  unfolding at_depot
  keeping_starts heads head kept h long e f =
      let here : walked c depot list 0 ≡ tour_at head = rw e in
      record {
        within = omega arith;
        same_length = length-set heads 0 kept ∙ long;
        placed = rw e h;
        at_hand = here;
        so_far = λ j below. at_none j (omega arith) here;
      }
    where
      at_none : (j : ℕ) → j ≡ 0 → walked c depot list 0 ≡ tour_at head →
          walked c depot list j ≡ tour_at (head_from (get_or (set heads 0 kept) j nothing_kept) depot list j)
      at_none j z here = rw z (read_head heads 0 head kept f (omega (arith, long)) c depot list (omega arith) here)

  module _ (heads : List KeptHead) (head : Head) (k : ℕ) (kept : Keeping heads head k) where
    -- no visit is left
    pub keeping_ends : (n : ℕ) → n ≡ length list → length list ≤ k → Kept c depot list (record { heads = heads; reached = n })
    keeping_ends n is h = record {
      few = omega (arith, is);
      head_at = λ j below. kept.so_far j (omega (arith, is, below, h));
      lost = λ left. absurd (omega (arith, is, left));
    }

    module _ (r : Head) (there : k < length list) (drove : Drove c head list k (k + 1) r) where
      on : walked c depot list r.visits ≡ tour_at r
      on =
          walk_further c (tour_of zero64 (Some at_start) depot) list k r.visits (tour_at head) drove.behind kept.at_hand ∙ drove.same

      -- the visit can't be served
      pub keeping_stops : r.visits ≡ k → Kept c depot list (record { heads = heads; reached = k })
      keeping_stops e = record {
        few = kept.within;
        head_at = kept.so_far;
        lost = λ left. ap (λ (t : Tour (Option Label)). t.clock) (walked_more c depot list k there)
            ∙ ap (λ (t : Tour (Option Label)). tick c t.clock t.place (get_or list k 0)) (rw e at on)
            ∙ sym (rw e at (drove.lost (omega (arith, e))));
      }

      -- the visit is served
      pub keeping_turns : (more : KeptHead) → length list ≤ 63 → r.visits ≢ k → more ≡ kept_of r → Keeping (set heads (k + 1) more) r (k + 1)
      keeping_turns more few o f = record {
        within = omega (arith, there);
        same_length = length-set heads (k + 1) more ∙ kept.same_length;
        placed = drove.placed;
        at_hand = here;
        so_far = λ j below. entry j below (eqb j (k + 1)) refl;
      }
        where
          further : r.visits ≡ k + 1
          further = omega (arith, drove.behind, drove.within, o)

          here : walked c depot list (k + 1) ≡ tour_at r
          here = rw further at on

          entry : (j : ℕ) → j ≤ k + 1 → (t : Bool) → eqb j (k + 1) ≡ t →
              walked c depot list j ≡ tour_at (head_from (get_or (set heads (k + 1) more) j nothing_kept) depot list j)
          entry j below true t =
              rw (eqb-true j (k + 1) t)
              (read_head heads (k + 1) r more f (omega (arith, kept.same_length, there, few)) c depot list (omega (arith, there)) here)
          entry j below false t =
              let other = eqb-false j (k + 1) t in
              rw (get_or-set_other heads (k + 1) j more nothing_kept other) (kept.so_far j (omega (arith, below, other)))
