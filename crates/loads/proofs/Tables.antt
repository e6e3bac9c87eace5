-- The lists of a table that is held: each has at most 63 visits, which are locations, and one that can be given a visit has room for it. A table that was not
-- refused is held, and an edit that keeps the visits keeps it so. Assumes nothing.
use mathlib.Core.Path.{◌≡◌, refl}
use mathlib.Core.Logic.{◌≢◌}
use mathlib.Core.Bool.{Bool, true, false}
use mathlib.Core.List.{List}
use Prim.Native.Nat.{ℕ, ◌+◌, ◌-◌, ◌≤◌, ◌<◌}
use native.Mathlib.Omega.{arith}
use borrow.Author.Tests.{lt-ltb, ltb-true, ltb-false}
use lib.Dec.{ltb}
use lib.ListN.{get_or}
use Rattle.edits.proofs.Kept.{same_each, same_length}
use Rattle.lists.specs.Table.{list_of}
use Rattle.list_changes.specs.Edits.{Edited}
use Rattle.lists.specs.Fine.{TableFine}
use Rattle.lists.proofs.Tables.{length_list, list_at, start_later, start_within}
use Rattle.labels.specs.Columns.{Visits}
use Rattle.loads.specs.Loads.{Held, Two}

module _ (l : ℕ) (visits lengths : List ℕ) (held : Held l visits lengths) where
  -- each list has at most 63 visits, and these are locations
  pub list_visits : (r : ℕ) → Visits l (list_of visits lengths r)
  list_visits r =
      let add-up = held.laid.add_up in
      let inside = start_within lengths r in
      record {
        few = rw (length_list visits lengths add-up r) (omega (arith, held.few));
        below = λ k h.
            let there : k < get_or lengths r 0 = rw (length_list visits lengths add-up r) at h in
            rw (list_at visits lengths add-up r k there) (held.below _ (omega arith));
      }

  pub lent_visits : (r : ℕ) (xs : List ℕ) → xs ≡ list_of visits lengths r → Visits l xs
  lent_visits r xs e = rw e (list_visits r)

  -- two lists have together no more visits than the table
  together : (a b : ℕ) → a ≢ b → get_or lengths a 0 + get_or lengths b 0 ≤ 63
  together a b apart = by_order (ltb a b) refl
    where
      by_order : (t : Bool) → ltb a b ≡ t → get_or lengths a 0 + get_or lengths b 0 ≤ 63
      by_order true e = omega (arith, start_later lengths a b (ltb-true a b e), start_within lengths b, held.laid.add_up, held.few)
      by_order false e =
          let before : b < a = omega (arith, ltb-false a b e, apart) in
          omega (arith, start_later lengths b a before, start_within lengths a, held.laid.add_up, held.few)

  pub two_of : (a b : ℕ) → a ≢ b → Two l (list_of visits lengths a) (list_of visits lengths b)
  two_of a b apart = record {
    one_below = (list_visits a).below;
    other_below = (list_visits b).below;
    few = rw (length_list visits lengths held.laid.add_up a, length_list visits lengths held.laid.add_up b) (together a b apart);
  }

  -- and one that another list can give a visit has room for it
  pub one_more : (from to : ℕ) → from ≢ to → 0 < get_or lengths from 0 → get_or lengths to 0 < 63
  one_more from to apart some-there = omega (arith, together from to apart)

  -- a visit of a list is a location
  pub visit_below : (r k : ℕ) → k < get_or lengths r 0 → get_or (list_of visits lengths r) k 0 < l
  visit_below r k h = (list_visits r).below k (rw (length_list visits lengths held.laid.add_up r) h)

-- lists that were not refused are held
pub held_of : (depots l : ℕ) (visits lengths : List ℕ) → l - depots ≤ 63 → TableFine depots l visits lengths → Held l visits lengths
held_of depots l visits lengths few fine = record { laid = fine.laid; below = fine.below; few = omega (arith, fine.at_most) }

-- and stay so where each visit stays in some list
pub still_held : (l : ℕ) (visits lengths visits' lengths' : List ℕ) (ls : List (List ℕ)) → Edited visits lengths visits' lengths' ls
    → Held l visits lengths → Held l visits' lengths'
still_held l visits lengths visits' lengths' ls e h = record {
  laid = e.laid;
  below = λ k t. ltb-true _ _ (same_each (λ v. ltb v l) visits visits' e.same (λ i there. lt-ltb _ _ (h.below i there)) k t);
  few = omega (arith, same_length visits visits' e.same, h.few);
}
