-- What a search answers is the definition's first move: a place whose reversal is not taken is passed over, and at one that is taken the move is made.
-- Assumes nothing.
use mathlib.Core.Path.{◌≡◌, refl, sym, ap, ◌∙◌}
use mathlib.Core.Bool.{Bool, true, false, cond}
use mathlib.Core.Option as maybe
use mathlib.Core.List.{List}
use Prim.Native.Nat.{ℕ, ◌<◌, ◌≤◌}
use lib.ListN.{length}
use Rattle.std.specs.Prelude.{Option, Some, None}
use Rattle.labels.specs.Columns.{Columns}
use Rattle.descent.specs.Search.{Sweep, first_move}
use Rattle.descent.specs.Within.{Reversal}
use Rattle.descent.proofs.Loops.{place_passed, place_moved, one_taken, one_left, next-ahead, next_sweep}
use Rattle.reversal_places.specs.declared.Terms.{Terms}
use Rattle.reversal_places.specs.declared.Place.{Place}
use Rattle.reversal_places.specs.Places.{searching, judging, reversal_at, place_after, gains, turned_at}
use Rattle.reversal_places.proofs.Tried.{turned_is, turned-length}
use Rattle.reversals.specs.Reversals.{InSweep, from, first_turn, next_turn, led, leaves, Inside, Searched}
use Rattle.reversals.proofs.Places.{from_turn, from_end, from_start}

module _ (c : Columns) (t : Terms) (xs : List ℕ) (p : Place) (order : p.first < p.last) (there : p.last < length xs) where
  abbrev n : ℕ
  n = length xs

  -- a place where none is taken
  pub passed_over : gains c t xs p ≡ false → first_turn c t xs (from n p) ≡ first_turn c t xs (from n (place_after n p))
  unfolding first_turn gains
  passed_over e =
      rw (from_turn n p order there)
      (place_passed (searching c t) (judging c t) xs (reversal_at p) (from n (place_after n p))
      (one_left (searching c t) (judging c t) xs (reversal_at p) (reversal_at p) refl e))

  -- a place where one is: the move, and the places behind it
  pub move_made : gains c t xs p ≡ true → led xs (Some p) ≡ first_turn c t xs (from n p)
  unfolding first_turn gains led
  move_made e =
      rw (from_turn n p order there, ← (turned_is xs p))
      (sym (place_moved (searching c t) (judging c t) xs (reversal_at p) (from n (place_after n p)) (reversal_at p)
      (one_taken (searching c t) (judging c t) xs (reversal_at p) (reversal_at p) refl e)))

-- the code's answer at a place: the search ends there, or goes on behind it with the list as it was
module _ (c : Columns) (t : Terms) (xs list : List ℕ) (p start : Place) (same : list ≡ xs) (order : p.first < p.last) (there : p.last < length xs)
    (so_far : first_turn c t xs (from (length xs) p) ≡ first_turn c t xs (from (length xs) start)) (answer : Bool) (is : answer ≡ gains c t list p)
    {after : List ℕ} (becomes : after ≡ cond answer (turned_at list p) list) where
  pub found_here : answer ≡ true → Searched (first_turn c t xs (from (length xs) start)) xs after (Some p)
  unfolding leaves Inside
  found_here e =
      let yes-here : gains c t xs p ≡ true = rw (← same) (sym is ∙ e) in
      let turned-here : after ≡ turned_at xs p = rw (e, same) at becomes in
      record { leads = move_made c t xs p order there yes-here ∙ so_far; left = turned-here; inside = (order, there) }

  pub not_here : answer ≡ false → (after ≡ xs) × (first_turn c t xs (from (length xs) (place_after (length xs) p)) ≡ first_turn c t xs (from (length xs) start))
  not_here e =
      let not-gaining : gains c t xs p ≡ false = rw (← same) (sym is ∙ e) in
      let as_it_was : after ≡ xs = rw (e, same) at becomes in
      (as_it_was, sym (passed_over c t xs p order there not-gaining) ∙ so_far)

-- at the end of the sweep there is none
pub none_left : (c : Columns) (t : Terms) (xs : List ℕ) (p : Place) → InSweep (length xs) p → length xs ≤ p.last
    → led xs None ≡ first_turn c t xs (from (length xs) p)
unfolding first_turn first_move led
none_left c t xs p in-sweep past = rw (from_end (length xs) p in-sweep past)

-- what a search that found nothing, or a place, leaves
pub left_as_it_was : {m : maybe.Option (Sweep (List ℕ) Reversal)} {xs ys : List ℕ} {r : Option Place} → Searched m xs ys r → r ≡ None → ys ≡ xs
unfolding leaves
left_as_it_was s e = rw e at s.left

pub record Turned (xs ys : List ℕ) (p : Place) : Type 0 where
  pub becomes : ys ≡ turned_at xs p
  pub ordered : p.first < p.last
  pub there : p.last < length xs
  pub same_length : length ys ≡ length xs

pub left-turned : {m : maybe.Option (Sweep (List ℕ) Reversal)} {xs ys : List ℕ} {r : Option Place} (p : Place) → Searched m xs ys r → r ≡ Some p → Turned xs ys p
unfolding leaves Inside
left-turned {xs = xs} p s e =
    let turned-here = rw e at s.left in
    let inside = rw e at s.inside in
    record { becomes = turned-here; ordered = inside.0; there = inside.1; same_length = ap length turned-here ∙ turned-length xs p inside.0 }

-- the next move is ahead; or the first of a new sweep
pub found_ahead : (c : Columns) (t : Terms) (xs ys : List ℕ) (ps : List Reversal) (r : Option Place) (p : Place) → r ≡ Some p
    → Searched (first_turn c t xs ps) xs ys r → Searched (next_turn c t (record { now = xs; ahead = ps })) xs ys (Some p)
unfolding first_turn next_turn led
found_ahead c t xs ys ps r p e s =
    let here = rw e at s in
    record {
      leads = sym (next-ahead (searching c t) (judging c t) (record { now = xs; ahead = ps }) _ (sym here.leads));
      left = here.left;
      inside = here.inside;
    }

pub found_anew : (c : Columns) (t : Terms) (xs ys zs : List ℕ) (ps : List Reversal) (r₁ r : Option Place) → r₁ ≡ None → Searched (first_turn c t xs ps) xs ys r₁
    → Searched (first_turn c t ys (from (length ys) (record { first = 0; last = 1 }))) ys zs r
    → Searched (next_turn c t (record { now = xs; ahead = ps })) xs zs r
unfolding first_turn next_turn led
found_anew c t xs ys zs ps r₁ r e nothing s =
    let here = rw (left_as_it_was nothing e, from_start (length xs)) at s in
    let none_ahead = rw e at nothing.leads in
    record {
      leads = here.leads ∙ sym (next_sweep (searching c t) (judging c t) (record { now = xs; ahead = ps }) (sym none_ahead));
      left = here.left;
      inside = here.inside;
    }
