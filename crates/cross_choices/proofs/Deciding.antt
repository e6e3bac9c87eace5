-- A row decided by two tables of costs: the first least delta by the tables is that of the definition's scan over the row's moves, since a list that isn't
-- allowed, or isn't asked for, stands there as infinite and gains nothing. Assumes nothing.
use mathlib.Core.Path.{◌≡◌, refl, sym, ap, ◌∙◌}
use mathlib.Core.Bool.{Bool, true, false, cond, not, ◌&&◌, ◌||◌}
use mathlib.Core.List.{List}
use Prim.Native.Nat.{ℕ, zero, suc, ◌+◌, ◌/◌, ◌%◌, ◌≤◌, ◌<◌}
use native.Mathlib.Omega.{arith}
use borrow.Author.Tests.{ltb-true, ltb-false, eq-eqb, ne_eqb, eqb-true, eqb-false}
use lib.Dec.{eqb, ltb}
use lib.IntN.{ℤ}
use lib.ListN.{length, get_or, set, length-set}
use lib.Seq.{slice, slice_empty, get_or-set_same, get_or-set_other}
use lib.Ieee.{Float, nan, inf, lt}
use Rattle.std.specs.Prelude.{Option, Some, None}
use Rattle.numbers.specs.Operations.{◌⊕◌, ◌⊖◌, zero64}
use Rattle.tests.specs.Pick.{picked, other}
use Rattle.labels.specs.Columns.{Columns}
use Rattle.descent.specs.Order.{range, scan}
use Rattle.descent.proofs.Loops.{scan_turn, scan_done}
use Rattle.cross_moves.specs.CrossDepot.{holds, priced_as, allowed, is_tested, amount, replaced, relocation}
use Rattle.cross_moves.specs.declared.pair.Pair.{Pair}
use Rattle.cross_moves.specs.declared.pair.Move.{Move}
use Rattle.day.specs.declared.vehicle.Van.{Van}
use Rattle.cross_rows.specs.declared.Stretch.{Stretch}
use Rattle.cross_rows.specs.Row.{from_at, to_at, changed, cost_unless}
use Rattle.cross_kinds.specs.Kinds.{tested_in, move_at, row_of}
use Rattle.cross_choices.specs.Scan.{made1, made2, decided, better}
use Rattle.cross_choices.specs.Rows.{mark_of, Extended, same_as, lesser_of, delta_at, chosen_by_block, best_of_row}
use Rattle.cross_kinds.specs.declared.kind.Kind.{Kind}
use Rattle.cross_kinds.specs.declared.kind.Kind.TheVariants.{Relocation, Swap, Tails}
use Rattle.cross_choices.specs.declared.Choice.{Choice}
use Rattle.cross_choices.specs.declared.Least.{Least}
use Rattle.cross_moves.proofs.Fitting.{holds_anywhere}
use Rattle.cross_choices.proofs.Numbers.{first_lost, second_lost}
use Rattle.cross_kinds.proofs.Along.{row_stretches, move_tested}

-- ---- a table filled in from its start

pub record Filled (f : ℕ → Float) (size : ℕ) (xs : List Float) (j : ℕ) : Type 0 where
  pub long : length xs ≡ size
  pub so_far : (i : ℕ) → i < j → get_or xs i nan ≡ f i

pub filled_turns : (f : ℕ → Float) (size : ℕ) (xs : List Float) (j : ℕ) (x : Float) → Filled f size xs j → j < size → x ≡ f j
    → Filled f size (set xs j x) (j + 1)
filled_turns f size xs j x filled h e = record {
  long = length-set xs j x ∙ filled.long;
  so_far = λ i below. entry i below (eqb i j) refl;
}
  where
    entry : (i : ℕ) → i < j + 1 → (t : Bool) → eqb i j ≡ t → get_or (set xs j x) i nan ≡ f i
    entry i below true t = rw (eqb-true i j t) (get_or-set_same xs j x nan (omega (arith, h, filled.long)) ∙ e)
    entry i below false t =
        get_or-set_other xs j i x nan (eqb-false i j t) ∙ filled.so_far i (omega (arith, below, eqb-false i j t))

-- ---- the first entry copied on

pub record Extending (xs : List Float) (from : ℕ) (ys : List Float) (j : ℕ) : Type 0 where
  pub long : length ys ≡ length xs
  pub begun : from ≤ j
  pub kept : (i : ℕ) → i < from → get_or ys i nan ≡ get_or xs i nan
  pub copied : (i : ℕ) → from ≤ i → 0 < from → i < j → get_or ys i nan ≡ get_or xs 0 nan

pub extending_turns : (xs : List Float) (from : ℕ) (ys : List Float) (j : ℕ) → Extending xs from ys j → j < length xs
    → Extending xs from (set ys j (get_or ys 0 nan)) (j + 1)
extending_turns xs from ys j so_far h = record {
  long = length-set ys j (get_or ys 0 nan) ∙ so_far.long;
  begun = omega (arith, so_far.begun);
  kept = λ i below. get_or-set_other ys j i (get_or ys 0 nan) nan (omega (arith, below, so_far.begun)) ∙ so_far.kept i below;
  copied = λ i above some below. entry i above some below (eqb i j) refl;
}
  where
    entry : (i : ℕ) → from ≤ i → 0 < from → i < j + 1 → (t : Bool) → eqb i j ≡ t → get_or (set ys j (get_or ys 0 nan)) i nan ≡ get_or xs 0 nan
    entry i above some below true t =
        rw (eqb-true i j t) (get_or-set_same ys j (get_or ys 0 nan) nan (omega (arith, h, so_far.long)) ∙ so_far.kept 0 some)
    entry i above some below false t =
        get_or-set_other ys j i (get_or ys 0 nan) nan (eqb-false i j t) ∙ so_far.copied i above some (omega (arith, below, eqb-false i j t))

-- ---- one move

-- what both costs make of the best so far
abbrev pub told : Pair → Move → Float → Float → Choice → Choice
told pair m x y best =
    cond (lt (x ⊕ y ⊖ pair.before) best.delta) (record { found = 1; chosen = m; delta = x ⊕ y ⊖ pair.before; cost1 = x; cost2 = y }) best

told_lost1 : (pair : Pair) (m : Move) (x y : Float) (best : Choice) → lt x (inf false) ≡ false → best ≡ told pair m x y best
told_lost1 pair m x y best h = other (lt (x ⊕ y ⊖ pair.before) best.delta) _ _ _ (first_lost x y pair.before best.delta h) refl

told_lost2 : (pair : Pair) (m : Move) (x : Float) (best : Choice) → best ≡ told pair m x (inf false) best
told_lost2 pair m x best = other (lt (x ⊕ inf false ⊖ pair.before) best.delta) _ _ _ (second_lost x pair.before best.delta) refl

-- the second cost is asked for only where the first is below infinity
abbrev asked : Option Float → Float → Float
asked q x = cond (lt x (inf false)) (amount q) (inf false)

infinite_lost : lt (inf false) (inf false) ≡ false
unfolding lt
infinite_lost = refl

decided-told : (pair : Pair) (m : Move) (p q : Option Float) (best : Choice)
    → decided pair m p q best ≡ told pair m (amount p) (asked q (amount p)) best
unfolding decided amount
decided-told pair m None q best = told_lost1 pair m (inf false) (asked q (inf false)) best infinite_lost
decided-told pair m (Some x) None best = by_test (lt x (inf false)) refl
  where
    by_test : (t : Bool) → lt x (inf false) ≡ t → best ≡ told pair m x (cond t (inf false) (inf false)) best
    by_test true e = told_lost2 pair m x best
    by_test false e = told_lost2 pair m x best
decided-told pair m (Some x) (Some y) best = by_test (lt x (inf false)) refl
  where
    by_test : (t : Bool) → lt x (inf false) ≡ t → told pair m x y best ≡ told pair m x (cond t y (inf false)) best
    by_test true e = refl
    by_test false e = sym (told_lost1 pair m x y best e) ∙ told_lost2 pair m x best

zero-below : lt zero64 (inf false) ≡ true
unfolding lt
zero-below = refl

-- a second list that isn't allowed changes nothing
unallowed2 : (pair : Pair) (m : Move) (p : Option Float) (best : Choice) → decided pair m p None best ≡ best
unfolding decided
unallowed2 pair m None best = refl
unallowed2 pair m (Some x) best = refl

unallowed1 : (pair : Pair) (m : Move) (q : Option Float) (best : Choice) → decided pair m None q best ≡ best
unfolding decided
unallowed1 pair m q best = refl

-- the first cost, where both lists are open or not
abbrev first_cost : Bool → Bool → Option Float → Float
first_cost one two p = cond (lt (cond (one && two) zero64 (inf false)) (inf false)) (amount p) (inf false)

shut_told : (pair : Pair) (m : Move) (q : Option Float) (best : Choice) → best ≡ told pair m (inf false) (asked q (inf false)) best
shut_told pair m q best = told_lost1 pair m (inf false) (asked q (inf false)) best infinite_lost

open_told : (pair : Pair) (m : Move) (one two : Bool) (p q : Option Float) (best : Choice)
    → decided pair m (cond one p None) (cond two q None) best ≡ told pair m (first_cost one two p) (asked q (first_cost one two p)) best
open_told pair m true true p q best = rw zero-below (decided-told pair m p q best)
open_told pair m true false p q best = rw infinite_lost (unallowed2 pair m p best ∙ shut_told pair m q best)
open_told pair m false two p q best = rw infinite_lost (unallowed1 pair m (cond two q None) best ∙ shut_told pair m q best)

module _ (c : Columns) (demand : List ℤ) (pair : Pair) (X Y : List ℕ) (m : Move) where
  -- what the tables say of a move: its first cost, and with that its second
  pub cost1_of : Float
  cost1_of =
      cost_unless c pair.van1 (mark_of (is_tested m) (holds demand pair.van1 (made1 X Y m)) (holds demand pair.van2 (made2 X Y m))) (made1 X Y m)

  pub cost2_of : Float
  cost2_of = cost_unless c pair.van2 cost1_of (made2 X Y m)

  pub better-told : (best : Choice) → better c demand pair X Y m best ≡ told pair m cost1_of cost2_of best
  unfolding better allowed mark_of cost_unless cost1_of cost2_of
  better-told best =
      open_told pair m (not (is_tested m) || holds demand pair.van1 (made1 X Y m)) (holds demand pair.van2 (made2 X Y m))
      (priced_as c pair.van1 (made1 X Y m)) (priced_as c pair.van2 (made2 X Y m)) best

-- ---- marks

module _ (demand : List ℤ) (van1 van2 : Van) (X Y : List ℕ) (own others : Stretch) (tested : Bool) (j from1 to1 from2 to2 : ℕ) (first second : Bool) where
  -- the mark of move j, by its stretches
  pub marked : (x : Float) → from1 ≡ from_at own j → to1 ≡ to_at own j → from2 ≡ from_at others j → to2 ≡ to_at others j
      → first ≡ holds demand van1 (replaced X from1 to1 (slice from2 to2 Y)) → second ≡ holds demand van2 (replaced Y from2 to2 (slice from1 to1 X))
      → x ≡ mark_of tested first second
      → x ≡ mark_of tested (holds demand van1 (changed X own Y others j)) (holds demand van2 (changed Y others X own j))
  marked x a b c d e f g = rw (e, f, a, b, c, d) at g

-- ---- the first least of a table

module _ (kind : Kind) (pair : Pair) (n1 n2 k width count : ℕ) (costs1 costs2 : List Float) (best : Choice) where
  -- what the least so far stands for
  abbrev stands : Least → Choice
  stands least = chosen_by_block kind pair n1 n2 k width count costs1 costs2 least best

  -- its delta is the best's while there is none
  pub record Known (least : Least) : Type 0 where
    pub few : least.at ≤ count
    pub is_delta : (stands least).delta ≡ least.delta

  pub known_starts : Known (record { at = count; delta = best.delta })
  unfolding chosen_by_block
  known_starts = record {
    few = omega arith;
    is_delta = ap (λ (r : Choice). r.delta) (sym (picked (eqb count count) _ _ _ (eq-eqb count count refl) refl));
  }

  pub nothing_yet : best ≡ stands (record { at = count; delta = best.delta })
  unfolding chosen_by_block
  nothing_yet = picked (eqb count count) _ _ _ (eq-eqb count count refl) refl

  abbrev step : ℕ → Least → Least
  step e = lesser_of e (delta_at pair.before costs1 costs2 e)

  -- one move more, that of entry e
  stands_turn : (f : Choice → Choice) (e : ℕ) (least : Least) → e < count
      → ((b : Choice) → f b ≡ told pair (move_at kind pair n1 n2 (k + e / width) (e % width)) (get_or costs1 e nan) (get_or costs2 e nan) b)
      → Known least → (f (stands least) ≡ stands (step e least)) × Known (step e least)
  unfolding lesser_of chosen_by_block
  stands_turn f e least h told-by known = by_test (lt delta least.delta) refl
    where
      delta : Float
      delta = delta_at pair.before costs1 costs2 e

      here : Least
      here = record { at = e; delta = delta }

      by_test : (t : Bool) → lt delta least.delta ≡ t → (f (stands least) ≡ stands (cond t here least)) × Known (cond t here least)
      by_test true less = (
        told-by (stands least) ∙ sym (picked (lt delta (stands least).delta) _ _ _ (ap (lt delta) known.is_delta ∙ less) refl)
            ∙ other (eqb e count) _ _ _ (ne_eqb e count (omega (arith, h))) refl,
        record {
          few = omega (arith, h);
          is_delta = ap (λ (r : Choice). r.delta) (sym (other (eqb e count) _ _ _ (ne_eqb e count (omega (arith, h))) refl));
        },
      )
      by_test false less =
          (told-by (stands least) ∙ sym (other (lt delta (stands least).delta) _ _ _ (ap (lt delta) known.is_delta ∙ less) refl), known)

  -- the moves of a row from j on, whose entries begin at `from`
  pub stands_on : (f : ℕ → Choice → Choice) (from n left j : ℕ) (least : Least) → n ≡ j + left → from + n ≤ count
      → ((i : ℕ) → i < n → (b : Choice) → f i b
      ≡ told pair (move_at kind pair n1 n2 (k + (from + i) / width) ((from + i) % width)) (get_or costs1 (from + i) nan) (get_or costs2 (from + i) nan) b)
      → Known least
      → (scan f (range j n) (stands least) ≡ stands (scan step (range (from + j) (from + n)) least)) × Known (scan step (range (from + j) (from + n)) least)
  stands_on f from n zero j least e room told-by known =
      let last = scan_done step (from + j) (from + n) least (omega (arith, e)) in
      rw last (scan_done f j n (stands least) (omega (arith, e)), known)
  stands_on f from n (suc left) j least e room told-by known =
      let more : j < n = omega (arith, e) in
      let turn = stands_turn (f j) (from + j) least (omega (arith, more, room)) (told-by j more) known in
      let next = step (from + j) least in
      let rest = stands_on f from n left (j + 1) next (omega (arith, e)) room told-by turn.1 in
      let same = scan_turn step (from + j) (from + n) least next (omega (arith, more)) refl in
      let shifted : from + (j + 1) ≡ from + j + 1 = omega arith in
      let on = rw (shifted, same) at rest in
      (sym (scan_turn f j n (stands least) (stands next) more (sym turn.0)) ∙ on.0, on.1)

-- ---- the tables of a row

-- the marks of a row and what its first lists cost, entry by entry
pub record Tabled (c : Columns) (demand : List ℤ) (pair : Pair) (X Y : List ℕ) (kind : Kind) (k : ℕ) (marks costs1 : ℕ → Float) : Type 0 where
  pub marks_are : (j : ℕ) → j < (row_of kind (length X) (length Y) k).distinct → marks j ≡ mark_of (tested_in kind)
      (holds demand pair.van1 (changed X (row_of kind (length X) (length Y) k).own Y (row_of kind (length X) (length Y) k).others j))
      (holds demand pair.van2 (changed Y (row_of kind (length X) (length Y) k).others X (row_of kind (length X) (length Y) k).own j))
  pub costs1_are : (j : ℕ) → j < (row_of kind (length X) (length Y) k).count
      → costs1 j ≡ cost_unless c pair.van1 (marks (same_as (row_of kind (length X) (length Y) k).distinct j))
      (changed X (row_of kind (length X) (length Y) k).own Y (row_of kind (length X) (length Y) k).others
      (same_as (row_of kind (length X) (length Y) k).distinct j))

-- a row's table whose first entry was copied on
module _ (c : Columns) (van : Van) (list other : List ℕ) (own others : Stretch) (distinct count : ℕ) (skip some costs : List Float) where
  pub extended_costs : (0 < count → 0 < distinct)
      → ((j : ℕ) → j < distinct → get_or some j nan ≡ cost_unless c van (get_or skip j nan) (changed list own other others j))
      → Extended some costs distinct count
      → (j : ℕ) → j < count
      → get_or costs j nan ≡ cost_unless c van (get_or skip (same_as distinct j) nan) (changed list own other others (same_as distinct j))
  extended_costs positive costed extended j h = by_test (ltb j distinct) refl
    where
      by_test : (b : Bool) → ltb j distinct ≡ b
          → get_or costs j nan ≡ cost_unless c van (get_or skip (cond b j 0) nan) (changed list own other others (cond b j 0))
      by_test true e = let below = ltb-true _ _ e in extended.kept j below ∙ costed j below
      by_test false e =
          let some_IsFirst = positive (omega (arith, h)) in
          extended.copied j (ltb-false _ _ e) some_IsFirst h ∙ costed 0 some_IsFirst

-- a loop that leaves the value as it is
pub scan-stays : {B : Type 0} (f : ℕ → B → B) (left k n : ℕ) (b : B) → n ≡ k + left → ((j : ℕ) → j < n → f j b ≡ b) → scan f (range k n) b ≡ b
scan-stays f zero k n b e h = scan_done f k n b (omega (arith, e))
scan-stays f (suc left) k n b e h =
    let more : k < n = omega (arith, e) in
    sym (scan_turn f k n b b more (sym (h k more))) ∙ scan-stays f left (k + 1) n b (omega (arith, e)) h

-- what a relocation leaves doesn't depend on the place, and neither does the load that it makes
left_anywhere : (c : Columns) (demand : List ℤ) (pair : Pair) (X Y : List ℕ) (k j : ℕ)
    → cost1_of c demand pair X Y (relocation pair.one pair.other k 0) ≡ cost1_of c demand pair X Y (relocation pair.one pair.other k j)
unfolding cost1_of
left_anywhere c demand pair X Y k j =
    rw (slice_empty 0 Y, slice_empty j Y, holds_anywhere demand pair.van2 Y j (slice k (k + 1) X)) refl

-- so the first move's cost is that of the others that aren't priced for themselves
distinct_first : (c : Columns) (demand : List ℤ) (pair : Pair) (X Y : List ℕ) (kind : Kind) (n1 n2 k j : ℕ) → (row_of kind n1 n2 k).distinct ≤ j
    → j < (row_of kind n1 n2 k).count
    → (0 < (row_of kind n1 n2 k).distinct)
    × (cost1_of c demand pair X Y (move_at kind pair n1 n2 k 0) ≡ cost1_of c demand pair X Y (move_at kind pair n1 n2 k j))
unfolding row_of move_at
distinct_first c demand pair X Y Relocation n1 n2 k j h e = (omega arith, left_anywhere c demand pair X Y k j)
distinct_first c demand pair X Y Swap n1 n2 k j h e = absurd (omega (arith, h, e))
distinct_first c demand pair X Y Tails n1 n2 k j h e = absurd (omega (arith, h, e))

module _ {c : Columns} {demand : List ℤ} {pair : Pair} {X Y : List ℕ} {kind : Kind} {k : ℕ} {marks costs1 : ℕ → Float}
    (t : Tabled c demand pair X Y kind k marks costs1) where
  abbrev row_move : ℕ → Move
  row_move j = move_at kind pair (length X) (length Y) k j

  -- the lists that move j makes
  first_made : (j : ℕ) → changed X (row_of kind (length X) (length Y) k).own Y (row_of kind (length X) (length Y) k).others j ≡ made1 X Y (row_move j)
  first_made j =
      let same = row_stretches kind pair (length X) (length Y) k j in
      rw (same.from1_is, same.to1_is, same.from2_is, same.to2_is)

  second_made : (j : ℕ) → changed Y (row_of kind (length X) (length Y) k).others X (row_of kind (length X) (length Y) k).own j ≡ made2 X Y (row_move j)
  second_made j =
      let same = row_stretches kind pair (length X) (length Y) k j in
      rw (same.from1_is, same.to1_is, same.from2_is, same.to2_is)

  -- the first cost of a move that is priced for itself
  priced_first : (j : ℕ) → j < (row_of kind (length X) (length Y) k).distinct
      → cost_unless c pair.van1 (marks j) (changed X (row_of kind (length X) (length Y) k).own Y (row_of kind (length X) (length Y) k).others j)
      ≡ cost1_of c demand pair X Y (row_move j)
  unfolding cost1_of
  priced_first j h = rw (t.marks_are j h, first_made j, second_made j, move_tested kind pair (length X) (length Y) k j)

  first_is : (j : ℕ) → j < (row_of kind (length X) (length Y) k).count → costs1 j ≡ cost1_of c demand pair X Y (row_move j)
  first_is j h = t.costs1_are j h ∙ by_test (ltb j (row_of kind (length X) (length Y) k).distinct) refl
    where
      by_test : (b : Bool) → ltb j (row_of kind (length X) (length Y) k).distinct ≡ b
          → cost_unless c pair.van1 (marks (cond b j 0))
          (changed X (row_of kind (length X) (length Y) k).own Y (row_of kind (length X) (length Y) k).others (cond b j 0))
          ≡ cost1_of c demand pair X Y (row_move j)
      by_test true e = priced_first j (ltb-true _ _ e)
      by_test false e =
          let first = distinct_first c demand pair X Y kind (length X) (length Y) k j (ltb-false _ _ e) h in
          priced_first 0 first.0 ∙ first.1

  -- where no first list costs less than infinity, the row changes nothing
  pub row_lost : ((j : ℕ) → j < (row_of kind (length X) (length Y) k).count → lt (costs1 j) (inf false) ≡ false) → (b : Choice)
      → best_of_row c demand pair X Y kind k b ≡ b
  unfolding best_of_row
  row_lost lost b =
      let count = (row_of kind (length X) (length Y) k).count in
      scan-stays (λ j. better c demand pair X Y (row_move j)) count 0 count b (omega arith)
      (λ j h. better-told c demand pair X Y (row_move j) b ∙ sym (told_lost1 pair (row_move j) _ _ b (rw (← first_is j h) (lost j h))))

  module _ (costs2 : ℕ → Float)
      (costs2-are : (j : ℕ) → j < (row_of kind (length X) (length Y) k).count → costs2 j ≡ cost_unless c pair.van2 (costs1 j)
      (changed Y (row_of kind (length X) (length Y) k).others X (row_of kind (length X) (length Y) k).own j)) where
    second_is : (j : ℕ) → j < (row_of kind (length X) (length Y) k).count → costs2 j ≡ cost2_of c demand pair X Y (row_move j)
    unfolding cost2_of
    second_is j h = rw (first_is j h, second_made j) at (costs2-are j h)

    -- what a move of the row makes of the best so far
    pub row_told : (j : ℕ) → j < (row_of kind (length X) (length Y) k).count → (b : Choice)
        → better c demand pair X Y (row_move j) b ≡ told pair (row_move j) (costs1 j) (costs2 j) b
    row_told j h b = rw (first_is j h, second_is j h) (better-told c demand pair X Y (row_move j) b)
