-- The cache through a move: the two figures of the visit itself are forgotten, then the giver's column and the receiver's are brought up to date, and what
-- is known is right of the lists as they stand then. Assumes nothing.
use mathlib.Core.Path.{◌≡◌, sym, ap, ◌∙◌}
use mathlib.Core.List.{List, []}
use Prim.Native.Nat.{ℕ, ◌+◌, ◌≤◌, ◌<◌}
use native.Mathlib.Omega.{arith}
use lib.Dec.{T}
use lib.ListN.{length, get_or, set, length-set}
use lib.Seq.{get_or-set_same, get_or-set_other}
use lib.Ieee.{Float}
use lib.Ieee.Scale.{finite}
use Rattle.lists.specs.Table.{lists, list_of}
use Rattle.list_changes.specs.Edits.{Edited, Relocates, relocated}
use Rattle.lists.proofs.Tables.{at_lists, length-lists, length_list}
use Rattle.deltas.specs.Deltas.{insertion_delta}
use Rattle.loads.specs.Loads.{Held}
use Rattle.edits.specs.Edits.{inserted, without}
use Rattle.insertions.specs.Cache.{forgotten, least_left, least_came, known_at, Noted, Updated, Known}
use Rattle.insertions.specs.declared.Insertions.{Insertions}
use Rattle.insertions.proofs.Shifted.{without-length, with_length}
use Rattle.insertions.proofs.Cached.{forgot, known_left, known_came}
use Rattle.loads.proofs.Tables.{list_visits}

module _ (l : ℕ) (visits lengths visits' lengths' : List ℕ) (from position to place : ℕ) (held : Held l visits lengths)
    (r : Relocates visits lengths from position to place)
    (e : Edited visits lengths visits' lengths' (relocated (lists visits lengths) from position to place)) where
  abbrev ls : List (List ℕ)
  ls = lists visits lengths

  abbrev X : List ℕ
  X = get_or (lists visits lengths) from []

  abbrev Y : List ℕ
  Y = get_or (lists visits lengths) to []

  abbrev moved : ℕ
  moved = get_or X position 0

  gives : from < length (lists visits lengths)
  gives = rw (length-lists visits lengths) r.gives

  takes : to < length (lists visits lengths)
  takes = rw (length-lists visits lengths) r.takes

  -- the giver's length, the receiver's
  long : position < length X
  long = rw (at_lists visits lengths from, length_list visits lengths held.laid.add_up from) r.visit_there

  wide : place ≤ length Y
  wide = rw (at_lists visits lengths to, length_list visits lengths held.laid.add_up to) r.place_there

  few : length Y ≤ 63
  few = rw (at_lists visits lengths to) (list_visits l visits lengths held to).few

  pub position_small : position < 65535
  position_small = omega (arith, long, held_giver)
    where
      held_giver : length X ≤ 63
      held_giver = rw (at_lists visits lengths from) (list_visits l visits lengths held from).few

  pub place_small : place < 65535
  place_small = omega (arith, wide, few)

  -- the lists then
  giver_then : list_of visits' lengths' from ≡ without X position
  unfolding relocated
  giver_then =
      sym (at_lists visits' lengths' from) ∙ ap (λ (ms : List (List ℕ)). get_or ms from []) e.holds
      ∙ get_or-set_other (set (lists visits lengths) from (without X position)) to from (inserted Y moved place) [] r.apart
      ∙ get_or-set_same (lists visits lengths) from (without X position) [] gives

  receiver_then : list_of visits' lengths' to ≡ inserted Y moved place
  unfolding relocated
  receiver_then =
      sym (at_lists visits' lengths' to) ∙ ap (λ (ms : List (List ℕ)). get_or ms to []) e.holds
      ∙ get_or-set_same (set (lists visits lengths) from (without X position)) to (inserted Y moved place) [] (rw length-set takes)

  -- where the cache is brought up to date
  pub giver_room : (xs : List ℕ) (at : ℕ) → xs ≡ list_of visits' lengths' from → at ≡ position → (at ≤ length xs) × (at < 65535)
  giver_room xs at is-giver is_at =
      let size : length xs ≡ length (without X position) = ap length (is-giver ∙ giver_then) in
      (omega (arith, size, is_at, long, without-length X position long), omega (arith, is_at, position_small))

  pub receiver_room : (ys : List ℕ) (at : ℕ) → ys ≡ list_of visits' lengths' to → at ≡ place → (at < length ys) × (at < 65535)
  receiver_room ys at is-receiver is_at =
      let size : length ys ≡ length (inserted Y moved place) = ap length (is-receiver ∙ receiver_then) in
      (omega (arith, size, is_at, wide, with_length Y moved place wide), omega (arith, is_at, place_small))

  module _ (d : ℕ → ℕ → Float) (depot : ℕ) (fixed : Float) (cache : Insertions)
      (K : Known (insertion_delta d depot fixed) l (lists visits lengths) cache)
      (v : ℕ) (one two three : Insertions) (xs : List ℕ) (at : ℕ) (is_at : at ≡ position) (is-giver : xs ≡ list_of visits' lengths' from)
      (first : Noted v from (forgotten (known_at cache v from)) cache one) (second : Noted v to (forgotten (known_at one v to)) one two)
      (third : Updated (λ u known after. after ≡ least_left known at (insertion_delta d depot fixed xs u at)) from l two three) where
    from_low : from < 16
    from_low = omega (arith, r.gives, held.laid.few)

    to_low : to < 16
    to_low = omega (arith, r.takes, held.laid.few)

    still_known : Known (insertion_delta d depot fixed) l (lists visits lengths) two
    still_known = forgot _ l (lists visits lengths) one two
        (forgot _ l (lists visits lengths) cache one K from from_low v first) to to_low v second

    -- between: the receiver is as it was
    known_between : Known (insertion_delta d depot fixed) l (set (lists visits lengths) from (without X position)) three
    known_between =
        let same : xs ≡ without X position = is-giver ∙ giver_then in
        known_left d depot fixed l (lists visits lengths) two three still_known from from_low gives position long (rw (same, is_at) at third)

    same-receiver : get_or (set (lists visits lengths) from (without X position)) to [] ≡ Y
    same-receiver = get_or-set_other (lists visits lengths) from to (without X position) [] (λ z. r.apart (sym z))

    -- so a place that is known stands in it
    pub place_low : (u : ℕ) → u < l → T (finite (known_at three u to).figure) → (known_at three u to).place < 65535
    place_low u h f =
        let k = (known_between.known u to h to_low f).there in
        let same : length (get_or (set (lists visits lengths) from (without X position)) to []) ≡ length Y = ap length same-receiver in
        omega (arith, k, same, few)

    pub known_after : (four : Insertions) (ys : List ℕ) (there : ℕ) → there ≡ place → ys ≡ list_of visits' lengths' to
        → Updated (λ u known after. after ≡ least_came known there (insertion_delta d depot fixed ys u there) (insertion_delta d depot fixed ys u (there + 1)))
        to l three four
        → Known (insertion_delta d depot fixed) l (lists visits' lengths') four
    unfolding relocated
    known_after four ys there is-there is-receiver fourth =
        let same : ys ≡ inserted Y moved place = is-receiver ∙ receiver_then in
        let changed = rw (same, is-there, ← same-receiver) at fourth in
        let wide' : place ≤ length (get_or (set (lists visits lengths) from (without X position)) to []) = rw same-receiver wide in
        rw (e.holds, ← same-receiver)
        (known_came d depot fixed l (set (lists visits lengths) from (without X position)) three four known_between to to_low (rw length-set takes) moved
        place wide' changed)
