-- Prefix loads: the table is filled from the first visit on, a stretch has what lies between two of its entries, and so the load of the list that a move makes
-- is within a capacity just when the entries say so. Assumes nothing.
use mathlib.Core.Path.{◌≡◌, refl, sym, ap, ◌∙◌}
use mathlib.Core.Bool.{Bool, true, false}
use mathlib.Core.List.{List}
use Prim.Native.Nat.{ℕ, ◌+◌, ◌≤◌, ◌<◌}
use native.Mathlib.Omega.{arith}
use borrow.Author.Tests.{leb-true, leb-false, le-leb, lt-leb, eqb-true, eqb-false}
use lib.Dec.{eqb, leb}
use lib.IntN.{ℤ, nat_abs}
use lib.ListN.{length, get_or, set, take, length-set}
use lib.Seq.{slice, take_all, slice_empty, get_or-set_same, get_or-set_other}
use Rattle.day.specs.declared.vehicle.Van.{Van}
use Rattle.edits.specs.Total.{total}
use Rattle.labels.specs.Columns.{Visits}
use Rattle.cross_moves.specs.Boxes.{Prefixed}
use Rattle.cross_moves.specs.CrossDepot.{holds, replaced}
use Rattle.loads.specs.Loads.{Two, boxes_of, Loaded}
use Rattle.loads.proofs.Visits.{visits_first, visits_second}
use Rattle.loads.proofs.Boxes.{load_small, load_more, load_parts}
use Rattle.cross_moves.proofs.Stretch.{in_three, total-replaced}

-- ---- the table is filled

module _ (demand : List ℤ) (list : List ℕ) where
  -- so far: the loads up to the first k visits
  pub record Filling (loads : List ℕ) (load k : ℕ) : Type 0 where
    pub within : k ≤ length list
    pub is_load : load ≡ total (boxes_of demand) (take k list)
    pub same_length : length loads ≡ 64
    pub so_far : (j : ℕ) → j ≤ k → get_or loads j 0 ≡ total (boxes_of demand) (take j list)

  pub filling_starts : (loads : List ℕ) → length loads ≡ 64 → Filling (set loads 0 0) 0 0
  filling_starts loads long = record {
    within = omega arith;
    is_load = refl;
    same_length = length-set loads 0 0 ∙ long;
    so_far = λ j h. at_none j (omega arith);
  }
    where
      at_none : (j : ℕ) → j ≡ 0 → get_or (set loads 0 0) j 0 ≡ total (boxes_of demand) (take j list)
      at_none j e = rw e (get_or-set_same loads 0 0 0 (omega (arith, long)))

  pub filling_turns : (loads : List ℕ) (load k more : ℕ) → Filling loads load k → k < length list → length list ≤ 63
      → more ≡ boxes_of demand (get_or list k 0) → Filling (set loads (k + 1) (load + more)) (load + more) (k + 1)
  filling_turns loads load k more w h few e = record {
    within = omega (arith, h);
    is_load = sum;
    same_length = length-set loads (k + 1) (load + more) ∙ w.same_length;
    so_far = λ j below. entry j below (eqb j (k + 1)) refl;
  }
    where
      sum : load + more ≡ total (boxes_of demand) (take (k + 1) list)
      sum = load_more (boxes_of demand) list k load more h w.is_load e

      entry : (j : ℕ) → j ≤ k + 1 → (t : Bool) → eqb j (k + 1) ≡ t → get_or (set loads (k + 1) (load + more)) j 0 ≡ total (boxes_of demand) (take j list)
      entry j below true t =
          rw (eqb-true j (k + 1) t) (get_or-set_same loads (k + 1) (load + more) 0 (omega (arith, h, few, w.same_length)) ∙ sum)
      entry j below false t =
          get_or-set_other loads (k + 1) j (load + more) 0 (eqb-false j (k + 1) t)
          ∙ w.so_far j (omega (arith, below, eqb-false j (k + 1) t))

  pub filling_ends : (loads : List ℕ) (load k : ℕ) → Filling loads load k → length list ≤ k → length list ≤ 63 → Prefixed demand list loads
  filling_ends loads load k w h few = record {
    long = omega (arith, few, w.same_length);
    load_at = λ j below. w.so_far j (omega (arith, below, h));
  }

-- ---- a load by the tables

-- a stretch has what lies between two heads
load_stretch : (f : ℕ → ℕ) (xs : List ℕ) (from to : ℕ) → from ≤ to → total f (take from xs) + total f (slice from to xs) ≡ total f (take to xs)
load_stretch f xs from to h =
    let three = in_three f xs from to h in
    let two = load_parts f to xs in
    omega (arith, three, two)

leb_alike : (a b c d : ℕ) → a + d ≡ c + b → leb a b ≡ leb c d
leb_alike a b c d e = by_test (leb c d) refl
  where
    by_test : (t : Bool) → leb c d ≡ t → leb a b ≡ leb c d
    by_test true h = le-leb a b (omega (arith, e, leb-true c d h)) ∙ sym h
    by_test false h = lt-leb a b (omega (arith, e, leb-false c d h)) ∙ sym h

-- no load of a table is over 63,000,000
load_few : (l : ℕ) (demand : List ℤ) (X loads : List ℕ) → Loaded l demand → Visits l X → Prefixed demand X loads → (k : ℕ) → k ≤ length X
    → get_or loads k 0 ≤ 63000000
load_few l demand X loads loaded visits prefixed k h =
    let entry = prefixed.load_at k h in
    let parts = load_parts (boxes_of demand) k X in
    let all = load_small l demand X loaded visits.below visits.few in
    omega (arith, entry, parts, all)

module _ (l : ℕ) (demand : List ℤ) (X Y loads others : List ℕ) (loaded : Loaded l demand) (two : Two l X Y) (of-X : Prefixed demand X loads)
    (of-Y : Prefixed demand Y others) (from to from2 to2 : ℕ) (ordered : from ≤ to) (within : to ≤ length X) (ordered2 : from2 ≤ to2)
    (within2 : to2 ≤ length Y) where
  pub loads_few : (get_or loads (length X) 0 ≤ 63000000) × (get_or loads from 0 ≤ 63000000) × (get_or loads to 0 ≤ 63000000) × (get_or others from2 0 ≤ 63000000)
      × (get_or others to2 0 ≤ 63000000)
  loads_few =
      let x = load_few l demand X loads loaded (visits_first l X Y two) of-X in
      let y = load_few l demand Y others loaded (visits_second l X Y two) of-Y in (
        x (length X) (omega arith),
        x from (omega (arith, ordered, within)),
        x to within,
        y from2 (omega (arith, ordered2, within2)),
        y to2 within2,
      )

  pub fits_is : (van : Van) (boxes : ℕ) → boxes ≡ nat_abs van.capacity
      → leb (get_or loads (length X) 0 + get_or loads from 0 + get_or others to2 0) (boxes + (get_or loads to 0 + get_or others from2 0))
      ≡ holds demand van (replaced X from to (slice from2 to2 Y))
  unfolding holds
  fits_is van boxes is =
      let all : get_or loads (length X) 0 ≡ total (boxes_of demand) X =
      of-X.load_at (length X) (omega arith) ∙ ap (total (boxes_of demand)) (take_all (length X) X (omega arith)) in
      let head = of-X.load_at from (omega (arith, ordered, within)) in
      let reach = of-X.load_at to within in
      let head2 = of-Y.load_at from2 (omega (arith, ordered2, within2)) in
      let reach2 = of-Y.load_at to2 within2 in
      let stretch = load_stretch (boxes_of demand) X from to ordered in
      let stretch2 = load_stretch (boxes_of demand) Y from2 to2 ordered2 in
      let new = total-replaced (boxes_of demand) X from to (slice from2 to2 Y) ordered in
      leb_alike
      (get_or loads (length X) 0 + get_or loads from 0 + get_or others to2 0)
      (boxes + (get_or loads to 0 + get_or others from2 0))
      (total (boxes_of demand) (replaced X from to (slice from2 to2 Y)))
      (nat_abs van.capacity)
      (omega (arith, is, all, head, reach, head2, reach2, stretch, stretch2, new))

-- ---- a visit that comes: its place doesn't count

total_anywhere : (f : ℕ → ℕ) (Y : List ℕ) (place : ℕ) (part : List ℕ) → total f (replaced Y place place part) ≡ total f Y + total f part
total_anywhere f Y place part =
    let none : total f (slice place place Y) ≡ 0 = ap (total f) (slice_empty place Y) in
    let new = total-replaced f Y place place part (omega arith) in
    omega (arith, none, new)

pub holds_anywhere : (demand : List ℤ) (van : Van) (Y : List ℕ) (place : ℕ) (part : List ℕ)
    → holds demand van (replaced Y place place part) ≡ holds demand van (replaced Y 0 0 part)
unfolding holds
holds_anywhere demand van Y place part =
    ap (λ (n : ℕ). leb n (nat_abs van.capacity)) (total_anywhere (boxes_of demand) Y place part ∙ sym (total_anywhere (boxes_of demand) Y 0 part))
