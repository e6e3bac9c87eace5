-- The loads along a run: a move passes where the receiver's load, or both, are within the capacity, and a list that gives a visit away carries less than
-- before. So each list is within its van's capacity or carries no more than a list lent under the same van. Assumes nothing.
use mathlib.Core.Path.{◌≡◌, refl, ap, ◌∙◌}
use mathlib.Core.Logic.{inl, inr}
use mathlib.Core.Bool.{Bool, true, false, not, cond, ◌&&◌, ◌||◌, false≢true}
use mathlib.Core.Option.{some}
use mathlib.Core.List.{List, [], ◌∷◌, ◌++◌}
use Prim.Native.Nat.{ℕ, zero, suc, ◌+◌, ◌-◌, ◌≤◌, ◌<◌}
use native.Mathlib.Omega.{arith}
use native.Mathlib.Decide.{ℕ_discrete}
use borrow.Author.Tests.{leb-true}
use lib.Dec.{leb}
use lib.IntN.{ℤ, nat_abs}
use lib.ListN.{length, get_or, set, take, drop, length-map, length-set}
use lib.Seq.{slice, slice_empty, drop-drop, get_or-set_same, get_or-set_other}
use lib.Ieee.{Float}
use Rattle.std.specs.Prelude.{None}
use Rattle.day.specs.declared.vehicle.Van.{Van}
use Rattle.edits.specs.Total.{total, total_append}
use Rattle.lists.specs.Table.{lengths_of}
use Rattle.list_changes.specs.Edits.{at, filled}
use Rattle.labels.specs.Columns.{Columns}
use Rattle.descent.specs.Order.{here}
use Rattle.descent.specs.Search.{Sweep, ok, next}
use Rattle.descent.proofs.Members.{and_parts}
use Rattle.descent.proofs.Runs.{ran, chain_map}
use Rattle.descent.proofs.Sweeps.{next-some}
use Rattle.fleet.specs.Fleet.{Fleet, fleet_vehicle}
use Rattle.fleet.proofs.Numbered.{found_again}
use Rattle.loads.specs.Loads.{boxes_of}
use Rattle.cross_moves.specs.CrossDepot.{Plan, is_tested, found_ids, lent_plan, priced_as, holds, allowed, has_price, first, second, exchanged_by, of_filled, dropped}
use Rattle.cross_moves.specs.CrossDepot.{after_move, first_price, second_price, moved, search_of, judge_of, run_of, Carries, Carried}
use Rattle.cross_moves.specs.declared.pair.Move.{Move}
use Rattle.loads.proofs.Boxes.{load_parts}
use Rattle.cross_steps.proofs.Sound.{TestedOrLess, move_tested}

-- ---- something of every list and the id of its van

module _ (P : List ℕ → ℕ → Type 0) where
  abbrev Each : List (List ℕ) → List ℕ → Type 0
  Each ls ids = (k : ℕ) → k < length ls → P (at ls k) (get_or ids k 0)

  each_set : (ls : List (List ℕ)) (ids : List ℕ) (r : ℕ) (new : List ℕ) → Each ls ids → P new (get_or ids r 0) → Each (set ls r new) ids
  each_set ls ids r new each put k h = by_number (ℕ_discrete k r)
    where
      there : k < length ls
      there = rw length-set at h

      by_number : Dec (k ≡ r) → P (at (set ls r new) k) (get_or ids k 0)
      by_number (yes e) = rw (e, get_or-set_same ls r new [] (rw e at there)) put
      by_number (no apart) = rw (get_or-set_other ls r k new [] apart) (each k there)

  each-filled : (ls : List (List ℕ)) (ids : List ℕ) → length ids ≡ length ls → Each ls ids
      → (length (of_filled (lengths_of ls) ids) ≡ length (filled ls)) × Each (filled ls) (of_filled (lengths_of ls) ids)
  unfolding of_filled lengths_of
  each-filled [] ids even each = (refl, λ k h. absurd (omega arith))
  each-filled (xs ∷ ls) [] even each = absurd (omega arith)
  each-filled ([] ∷ ls) (id ∷ ids) even each = each-filled ls ids (omega arith) (λ k h. each (suc k) (omega arith))
  each-filled ((x ∷ xs) ∷ ls) (id ∷ ids) even each =
      let rest = each-filled ls ids (omega arith) (λ k h. each (suc k) (omega arith)) in
      (ap suc rest.0, at-number rest.1)
    where
      at-number : Each (filled ls) (of_filled (lengths_of ls) ids) → Each ((x ∷ xs) ∷ filled ls) (id ∷ of_filled (lengths_of ls) ids)
      at-number rest zero h = each 0 (omega arith)
      at-number rest (suc k) h = rest k (omega arith)

-- ---- what the prices of a move say

-- a list has a price where its load isn't tested, or is within the capacity
price_holds : (c : Columns) (demand : List ℤ) (tested : Bool) (van : Van) (list : List ℕ) → has_price (allowed c demand tested van list) ≡ true
    → tested ≡ true → total (boxes_of demand) list ≤ nat_abs van.capacity
unfolding allowed holds has_price
price_holds c demand tested van list e t = leb-true _ _ (by_test tested (leb (total (boxes_of demand) list) (nat_abs van.capacity)) t e)
  where
    by_test : (tested within : Bool) → tested ≡ true → has_price (cond (not tested || within) (priced_as c van list) None) ≡ true → within ≡ true
    by_test true true t e = refl
    by_test true false t e = absurd (false≢true e)
    by_test false within t e = absurd (false≢true t)

-- a list with nothing in the place of a stretch carries no more
less_than_before : (f : ℕ → ℕ) (list other : List ℕ) (from to place : ℕ) → from ≤ to
    → total f (take from list ++ slice place place other ++ drop to list) ≤ total f list
less_than_before f list other from to place ordered =
    let parts = load_parts f from list in
    let rest = load_parts f (to - from) (drop from list) in
    let behind : from + (to - from) ≡ to = omega arith in
    let same : drop (to - from) (drop from list) ≡ drop to list = drop-drop (to - from) from list ∙ ap (λ k. drop k list) behind in
    let less : total f (drop to list) ≤ total f (drop from list) = let whole = rw same at rest in omega arith in
    rw (slice_empty place other, total_append, total_append) (omega arith)

-- ---- along a run

module _ (c : Columns) (demand : List ℤ) (fleet : Fleet) (lent : List (List ℕ)) (lent-ids : List ℕ) where
  abbrev Kept : List ℕ → ℕ → Type 0
  Kept = Carries demand fleet lent lent-ids

  -- a list that carries no more is kept under the same van
  lighter : (list less : List ℕ) (id : ℕ) → Kept list id → total (boxes_of demand) less ≤ total (boxes_of demand) list → Kept less id
  lighter list less id (inl within) h = inl (omega arith)
  lighter list less id (inr (j, there, van, most)) h = inr (j, there, van, omega arith)

  abbrev Loaded : Plan → Type 0
  Loaded p = (length p.ids ≡ length p.lists) × Carried demand fleet lent lent-ids p.lists p.ids

  module _ (p : Plan) (m : Move) (one-there : m.one < length p.lists) (loaded : Loaded p) where
    second_kept : has_price (second_price c demand fleet p m) ≡ true → Kept (second p.lists m) (get_or p.ids m.other 0)
    unfolding second_price
    second_kept e = inl (price_holds c demand true _ _ e refl)

    first_kept : TestedOrLess m → has_price (first_price c demand fleet p m) ≡ true → Kept (first p.lists m) (get_or p.ids m.one 0)
    unfolding first_price
    first_kept (inl tested) e = inl (price_holds c demand (is_tested m) _ _ e tested)
    first_kept (inr (ordered, none)) e =
        lighter (at p.lists m.one) (first p.lists m) (get_or p.ids m.one 0) (loaded.1 m.one one-there)
        (rw (← none) (less_than_before (boxes_of demand) (at p.lists m.one) (at p.lists m.other) m.from1 m.to1 m.from2 ordered))

    move_keeps : TestedOrLess m → (has_price (first_price c demand fleet p m) && has_price (second_price c demand fleet p m)) ≡ true
        → Loaded (moved c demand fleet p m)
    unfolding moved after_move dropped exchanged_by
    move_keeps kind passes =
        let prices = and_parts (has_price (first_price c demand fleet p m)) _ passes in
        let ls = set p.lists m.one (first p.lists m) in
        let one = each_set Kept p.lists p.ids m.one (first p.lists m) loaded.1 (first_kept kind prices.0) in
        let both = each_set Kept ls p.ids m.other (second p.lists m) one (second_kept prices.1) in
        let even : length p.ids ≡ length (set ls m.other (second p.lists m)) = simp length-set loaded.0 in
        each-filled Kept (set ls m.other (second p.lists m)) p.ids even both

  step : (a b : Sweep Plan Unit) → Loaded a.now → next (search_of c demand fleet) (judge_of c demand fleet) a ≡ some b → Loaded b.now × Unit {0}
  unfolding search_of ok
  step a b loaded q =
      let f = next-some (search_of c demand fleet) (judge_of c demand fleet) a b (λ place h. here) q in
      let told = move_tested fleet a.now f.move f.move_in in
      let both = and_parts ((judge_of c demand fleet).counts ((judge_of c demand fleet).delta a.now f.move)) _ f.move_ok in
      (rw f.is (move_keeps a.now f.move told.0 loaded told.1 both.1), tt)

  run_keeps : (limit : ℕ) (p : Plan) → Loaded p → Loaded (run_of c demand fleet limit p).last.now
  unfolding run_of
  run_keeps limit p loaded =
      let told = ran (next (search_of c demand fleet) (judge_of c demand fleet)) limit (record { now = p; ahead = [] }) in
      (chain_map (λ x y. Unit {0}) (λ (s : Sweep Plan Unit). s.now) (λ s. Loaded s.now) step loaded told.chain).0

-- ---- what is lent, and what is handed back

-- the id of the van found, for each list
at_found : (fleet : Fleet) (ids : List ℕ) (k : ℕ) → k < length ids → get_or (found_ids fleet ids) k 0 ≡ (fleet_vehicle fleet (get_or ids k 0)).id
at_found fleet [] k h = absurd (omega arith)
at_found fleet (id ∷ ids) zero h = refl
at_found fleet (id ∷ ids) (suc k) h = at_found fleet ids k (omega arith)

module _ (c : Columns) (demand : List ℤ) (fleet : Fleet) (limit : ℕ) (ls : List (List ℕ)) (ids : List ℕ) (even : length ids ≡ length ls) where
  -- a list lent carries what it carries
  pub carried_as_given : Carried demand fleet ls ids ls ids
  carried_as_given k h = inr (k, h, refl, omega arith)

  carried_lent : Carried demand fleet ls ids ls (found_ids fleet ids)
  carried_lent k h =
      let found = ap (fleet_vehicle fleet) (at_found fleet ids k (omega arith)) ∙ found_again fleet (get_or ids k 0) in
      inr (k, h, found, omega arith)

  pub carried_by_run : (prices : List Float) → let last = (run_of c demand fleet limit (lent_plan fleet ls ids prices)).last.now in
      Carried demand fleet ls ids last.lists last.ids
  carried_by_run prices = (run_keeps c demand fleet ls ids limit (lent_plan fleet ls ids prices) (simp length-map even, carried_lent)).1
