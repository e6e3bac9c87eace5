-- The edits across lists, of both tables at once: what they make of the table and of the lengths are the tables of the lists that they are to make.
-- Assumes nothing.
use mathlib.Core.Path.{◌≡◌, refl, ◌∙◌}
use mathlib.Core.Bool.{Bool, true, false}
use mathlib.Core.List.{List}
use Prim.Native.Nat.{ℕ, ◌+◌, ◌-◌, ◌≤◌, ◌<◌}
use native.Mathlib.Omega.{arith}
use borrow.Author.Tests.{lt-ltb, le-ltb, ltb-true, ltb-false}
use lib.Dec.{ltb}
use lib.ListN.{length, get_or, length-append, length-set, length-drop}
use lib.Seq.{length-take-le}
use Rattle.edits.specs.Total.{total, SameVisits}
use Rattle.edits.specs.Edits.{exchanged, outer_exchanged}
use Rattle.edits.proofs.Kept.{same_exchanged, same_outer_exchanged}
use Rattle.tests.specs.Pick.{picked, other}
use Rattle.lists.specs.Table.{Laid, lists, flat, lengths_of, start_of}
use Rattle.lists.proofs.Tables.{length-lists, length_at, at_lengths, flat-lists, lengths_lists, lengths_set}
use Rattle.lists.proofs.Tables.{start_later, start_within}
use Rattle.list_changes.specs.Edits.{Edited, at, giver, receiver, relocated, Relocates, moved_one, length_moved, joined, tails_exchanged, tail_lengths, Cuts}
use Rattle.list_changes.proofs.Edited.{edited_by}
use Rattle.list_changes.proofs.Two.{moved_later, moved_earlier, tails_made}

-- the lists of tables that are laid out
module _ (visits lengths : List ℕ) (laid : Laid visits lengths) where
  the_visits : flat (lists visits lengths) ≡ visits
  the_visits = flat-lists visits lengths laid.add_up

  the_lengths : lengths_of (lists visits lengths) ≡ lengths
  the_lengths = lengths_lists visits lengths laid.add_up

-- ---- a relocation

-- one visit in the table: whichever place comes first, it changes places with what lies between
pub moved_on : (p q : ℕ) (xs : List ℕ) → p < q → exchanged p (p + 1) q xs ≡ moved_one p q xs
unfolding moved_one
moved_on p q xs h = picked (ltb p q) _ _ _ (lt-ltb p q h) refl

pub moved_back : (p q : ℕ) (xs : List ℕ) → q ≤ p → exchanged q p (p + 1) xs ≡ moved_one p q xs
unfolding moved_one
moved_back p q xs h = other (ltb p q) _ _ _ (le-ltb p q h) refl

moved_same : (p q : ℕ) (xs : List ℕ) → SameVisits xs (moved_one p q xs)
moved_same p q xs f = by_order (ltb p q) refl
  where
    by_order : (b : Bool) → ltb p q ≡ b → total f (moved_one p q xs) ≡ total f xs
    by_order true e = let h = ltb-true p q e in rw (← moved_on p q xs h) (same_exchanged p (p + 1) q xs (omega arith) (omega arith) f)
    by_order false e = let h = ltb-false p q e in rw (← moved_back p q xs h) (same_exchanged q p (p + 1) xs h (omega arith) f)

lengths_relocated : (ls : List (List ℕ)) (from position to place : ℕ) → position < length (at ls from) → place ≤ length (at ls to)
    → length_moved from to (lengths_of ls) ≡ lengths_of (relocated ls from position to place)
unfolding length_moved relocated
lengths_relocated ls from position to place h k =
    let less : length (giver ls from position) ≡ length (at ls from) - 1
    = simp (length-append, length-drop) (omega (arith, length-take-le position (at ls from) (omega arith))) in
    let more : length (receiver ls from position to place) ≡ length (at ls to) + 1
    = simp (length-append, length-drop) (omega (arith, length-take-le place (at ls to) k)) in
    rw (lengths_set, lengths_set, less, more, at_lengths ls from, at_lengths ls to)

number-relocated : (ls : List (List ℕ)) (from position to place : ℕ) → length (relocated ls from position to place) ≡ length ls
unfolding relocated
number-relocated ls from position to place = simp length-set

-- both places lie in the table, and the lengths can be changed by one
pub record RelocationRoom (visits lengths : List ℕ) (from position to place : ℕ) : Type 0 where
  pub visit_inside : start_of lengths from + position < length visits
  pub place_inside : start_of lengths to + place ≤ length visits
  pub gives_one : 0 < get_or lengths from 0
  pub takes_one : get_or lengths to 0 < 65535
  pub small : (position ≤ 65535) × (place ≤ 65535)

module _ (visits lengths : List ℕ) (from position to place : ℕ) (r : Relocates visits lengths from position to place) where
  pub relocation_room : RelocationRoom visits lengths from position to place
  relocation_room =
      let gives = start_within lengths from in
      let takes = start_within lengths to in
      record {
        visit_inside = omega (arith, r.laid.add_up, r.visit_there);
        place_inside = omega (arith, r.laid.add_up, r.place_there);
        gives_one = omega (arith, r.visit_there);
        takes_one = omega (arith, r.laid.add_up, r.laid.size);
        small = (omega (arith, r.visit_there, r.laid.add_up, r.laid.size), omega (arith, r.place_there, r.laid.add_up, r.laid.size));
      }

  visit_there : position < length (at (lists visits lengths) from)
  visit_there = rw (length_at visits lengths r.laid.add_up from) r.visit_there

  place_there : place ≤ length (at (lists visits lengths) to)
  place_there = rw (length_at visits lengths r.laid.add_up to) r.place_there

  moved_table : moved_one (start_of lengths from + position) (start_of lengths to + place) visits ≡ flat (relocated (lists visits lengths) from position to place)
  moved_table = by_order (ltb from to) refl
    where
      ls : List (List ℕ)
      ls = lists visits lengths

      p : ℕ
      p = start_of lengths from + position

      q : ℕ
      q = start_of lengths to + place

      by_order : (b : Bool) → ltb from to ≡ b → moved_one p q visits ≡ flat (relocated ls from position to place)
      by_order true e =
          let before = ltb-true from to e in
          let h : p < q = omega (arith, start_later lengths from to before, r.visit_there) in
          rw (← moved_on p q visits h)
          (rw (the_lengths visits lengths r.laid, the_visits visits lengths r.laid) at
          (moved_later ls from to before (rw length-lists r.takes) position place visit_there place_there))
      by_order false e =
          let before : to < from = omega (arith, ltb-false from to e, r.apart) in
          let h : q ≤ p = omega (arith, start_later lengths to from before, r.place_there) in
          rw (← moved_back p q visits h)
          (rw (the_lengths visits lengths r.laid, the_visits visits lengths r.laid) at
          (moved_earlier ls to from before (rw length-lists r.gives) position place visit_there place_there))

  -- in the code's numbers: p and q are the two places
  pub relocate_edited : (p q : ℕ) → p ≡ start_of lengths from + position → q ≡ start_of lengths to + place
      → Edited visits lengths (moved_one p q visits) (length_moved from to lengths) (relocated (lists visits lengths) from position to place)
  relocate_edited p q at_p at-q =
      edited_by visits lengths _ _ _ r.laid (rw (at_p, at-q) moved_table)
      (rw (the_lengths visits lengths r.laid) at (lengths_relocated (lists visits lengths) from position to place visit_there place_there))
      (number-relocated (lists visits lengths) from position to place ∙ length-lists visits lengths) (moved_same p q visits)

-- ---- a tail exchange

lengths_tails : (ls : List (List ℕ)) (one two cut1 cut2 : ℕ) → cut1 ≤ length (at ls one) → cut2 ≤ length (at ls two)
    → tail_lengths one two cut1 cut2 (lengths_of ls) ≡ lengths_of (tails_exchanged ls one two cut1 cut2)
unfolding tail_lengths tails_exchanged
lengths_tails ls one two cut1 cut2 h k =
    let first : length (joined (at ls one) cut1 (at ls two) cut2) ≡ cut1 + (length (at ls two) - cut2)
    = simp (length-append, length-drop) (omega (arith, length-take-le cut1 (at ls one) h)) in
    let second : length (joined (at ls two) cut2 (at ls one) cut1) ≡ cut2 + (length (at ls one) - cut1)
    = simp (length-append, length-drop) (omega (arith, length-take-le cut2 (at ls two) k)) in
    rw (lengths_set, lengths_set, first, second, at_lengths ls one, at_lengths ls two)

number_tails : (ls : List (List ℕ)) (one two cut1 cut2 : ℕ) → length (tails_exchanged ls one two cut1 cut2) ≡ length ls
unfolding tails_exchanged
number_tails ls one two cut1 cut2 = simp length-set

-- the tails lie in the table, the first before the second list, and both lists together are as long as a length can be
pub record TailsRoom (visits lengths : List ℕ) (one two cut1 cut2 : ℕ) : Type 0 where
  pub first_there : one < length lengths
  pub before : start_of lengths one + get_or lengths one 0 ≤ start_of lengths two
  pub inside : start_of lengths two + get_or lengths two 0 ≤ length visits
  pub small : get_or lengths one 0 + get_or lengths two 0 ≤ 65535

module _ (visits lengths : List ℕ) (one two cut1 cut2 : ℕ) (r : Cuts visits lengths one two cut1 cut2) where
  pub tails_room : TailsRoom visits lengths one two cut1 cut2
  tails_room =
      let before = start_later lengths one two r.before in
      let inside = start_within lengths two in
      record {
        first_there = omega (arith, r.before, r.there);
        before = before;
        inside = omega (arith, r.laid.add_up);
        small = omega (arith, r.laid.add_up, r.laid.size);
      }

  -- in the code's numbers: from `from` to a and from b to `to` lie the tails
  pub tails_edited : (from a b to : ℕ) → from ≡ start_of lengths one + cut1 → a ≡ start_of lengths one + get_or lengths one 0
      → b ≡ start_of lengths two + cut2 → to ≡ start_of lengths two + get_or lengths two 0
      → Edited visits lengths (outer_exchanged from a b to visits) (tail_lengths one two cut1 cut2 lengths)
      (tails_exchanged (lists visits lengths) one two cut1 cut2)
  tails_edited from a b to at_from at_a at_b at-to =
      let ls = lists visits lengths in
      let n1 = length_at visits lengths r.laid.add_up one in
      let n2 = length_at visits lengths r.laid.add_up two in
      let within1 : cut1 ≤ length (at ls one) = rw n1 r.within1 in
      let within2 : cut2 ≤ length (at ls two) = rw n2 r.within2 in
      let table = tails_made ls one two r.before (rw length-lists r.there) cut1 cut2 within1 within2 in
      let long = lengths_tails ls one two cut1 cut2 within1 within2 in
      edited_by visits lengths _ _ _ r.laid
      (rw (at_from, at_a, at_b, at-to) (rw (n1, n2, the_lengths visits lengths r.laid, the_visits visits lengths r.laid) at table))
      (rw (the_lengths visits lengths r.laid) at long) (number_tails ls one two cut1 cut2 ∙ length-lists visits lengths)
      (same_outer_exchanged from a b to visits (omega (arith, r.within1)) (omega (arith, tails_room.before)) (omega (arith, r.within2)))
