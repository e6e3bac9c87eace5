-- The search for the next move, by any rules: a pair that has none is passed, and one that has ends it; behind the last pair comes a new sweep. Assumes
-- nothing.
use mathlib.Core.Path.{◌≡◌, refl, sym, ap, ◌∙◌}
use mathlib.Core.List.{List}
use Prim.Native.Nat.{ℕ, ◌+◌, ◌≤◌, ◌<◌}
use lib.ListN.{length}
use mathlib.Core.Option.{Option as Maybe, none, some}
use Rattle.std.specs.Prelude.{Option, Some, None}
use Rattle.lists.specs.Table.{lists}
use Rattle.list_changes.specs.Edits.{Edited, tails_exchanged}
use Rattle.lists.proofs.Tables.{length-lists, length_at}
use Rattle.descent.specs.Search.{Sweep, ok, taken, first_move}
use Rattle.descent.specs.Across.{Pair, Tails, tail_cuts}
use Rattle.descent.proofs.Loops.{place_passed, place_moved, next-ahead, next_sweep}
use Rattle.descent.proofs.Sweeps.{first_least-some}
use Rattle.descent.proofs.TailExchange.{tail_cuts_in}
use Rattle.loads.specs.Loads.{Held}
use Rattle.tail_candidates.specs.declared.Cut.{Cut}
use Rattle.exchange_sweeps.specs.Exchange.{Rules, search_of, pair_at, moved_by, taken_at, from, place_after, InSweep, first_at, next_of, made_by, leads, Makeable}
use Rattle.exchange_sweeps.specs.declared.Place.{Place}
use Rattle.exchange_sweeps.specs.declared.Exchange.{Exchange}
use Rattle.exchange_sweeps.proofs.Places.{from_turn, from_end, from_start}
use Rattle.descent.proofs.Going.{Going, going_moves}

pub none_of : {A : Type 0} (found : Option A) → ((x : A) → found ≡ Some x → ⊥) → found ≡ None
none_of None h = refl
none_of (Some x) h = absurd (h x refl)

-- the next move, where one was found and where none was
abbrev Next : Type 0
Next = Maybe (Sweep (List (List ℕ)) Pair)

pub one_left : (ls : List (List ℕ)) (found : Option Exchange) (e : Exchange) (next : Next) → found ≡ Some e → leads ls found ≡ next
    → next ≡ some (record { now = made_by ls e; ahead = from (length ls) (place_after (length ls) e.place) })
unfolding leads
one_left ls found e next is first = sym (rw is at first)

pub no_more : (ls : List (List ℕ)) (found : Option Exchange) (next : Next) → ((e : Exchange) → found ≡ Some e → ⊥) → leads ls found ≡ next → next ≡ none
unfolding leads
no_more ls found next not_some first = sym (rw (none_of found not_some) at first)

module _ (rules : Rules) where
  module _ (ls : List (List ℕ)) (n : ℕ) (number : length ls ≡ n) (p : Place) where
    module _ (found : Option Cut) (ordered : p.one < p.other) (there : p.other < n) (is : moved_by (pair_at p) found ≡ taken_at rules ls (pair_at p)) where
      -- a pair that has a move; and one that has none
      pub found_here : (cut : Cut) → found ≡ Some cut → leads ls (Some (record { place = p; cut = cut })) ≡ first_at rules ls (from n p)
      unfolding leads moved_by tails_exchanged
      found_here cut e =
          rw number
          (sym (place_moved (search_of rules) rules.judge ls (pair_at p) (from n (place_after n p))
          (record { pair = pair_at p; cut1 = cut.one; cut2 = cut.other }) (sym (rw e at is)))
          ∙ ap (first_at rules ls) (sym (from_turn n p ordered there)))

      pub not_here : ((cut : Cut) → found ≡ Some cut → ⊥) → first_at rules ls (from n (place_after n p)) ≡ first_at rules ls (from n p)
      unfolding moved_by
      not_here not_some =
          sym (place_passed (search_of rules) rules.judge ls (pair_at p) (from n (place_after n p)) (sym (rw (none_of found not_some) at is)))
          ∙ ap (first_at rules ls) (sym (from_turn n p ordered there))

    -- behind the last pair
    pub none_left : InSweep n p → n ≤ p.other → leads ls None ≡ first_at rules ls (from n p)
    unfolding first_move leads
    none_left in-sweep past = ap (first_at rules ls) (sym (from_end n p in-sweep past))

    -- the next move is ahead, or in a new sweep
    pub is-ahead : (found : Option Exchange) (e : Exchange) → found ≡ Some e → leads ls found ≡ first_at rules ls (from n p)
        → leads ls (Some e) ≡ next_of rules (record { now = ls; ahead = from n p })
    unfolding leads
    is-ahead found e is first =
        sym (next-ahead (search_of rules) rules.judge (record { now = ls; ahead = from n p }) _ (one_left ls found e _ is first))

    pub is_anew : (found anew : Option Exchange) → ((e : Exchange) → found ≡ Some e → ⊥) → leads ls found ≡ first_at rules ls (from n p)
        → leads ls anew ≡ first_at rules ls (from n (record { one = 0; other = 1 }))
        → leads ls anew ≡ next_of rules (record { now = ls; ahead = from n p })
    is_anew found anew not_some first again =
        again ∙ ap (first_at rules ls) (rw number (from_start n))
        ∙ sym (next_sweep (search_of rules) rules.judge (record { now = ls; ahead = from n p }) (no_more ls found _ not_some first))

  module _ (visits lengths : List ℕ) where
    -- an exchange that is taken can be made
    pub makeable : (l : ℕ) (p : Place) (found : Option Cut) (cut : Cut) → Held l visits lengths → p.one < p.other → p.other < length lengths
        → moved_by (pair_at p) found ≡ taken_at rules (lists visits lengths) (pair_at p) → found ≡ Some cut
        → Makeable visits lengths (record { place = p; cut = cut })
    unfolding taken moved_by
    makeable l p found cut held ordered there is e =
        let ls = lists visits lengths in
        let move : Tails = record { pair = pair_at p; cut1 = cut.one; cut2 = cut.other } in
        let member = first_least-some (ok (search_of rules) rules.judge ls)
        (λ m best. rules.judge.less (rules.judge.delta ls m) (rules.judge.delta ls best)) (tail_cuts ls (pair_at p)) move (sym (rw e at is)) in
        let within = tail_cuts_in ls (pair_at p) move member.0 in
        record {
          laid = held.laid;
          before = ordered;
          there = there;
          within1 = rw (length_at visits lengths held.laid.add_up p.one) at within.2;
          within2 = rw (length_at visits lengths held.laid.add_up p.other) at within.4;
        }

    -- a run goes on behind the move that was made
    pub moved_on : (limit moves : ℕ) (start : Sweep (List (List ℕ)) Pair) (ahead : Place) (found : Option Exchange) (e : Exchange) (visits' lengths' : List ℕ)
        → Going (next_of rules) limit start moves (record { now = lists visits lengths; ahead = from (length lengths) ahead }) → moves < limit
        → found ≡ Some e → leads (lists visits lengths) found ≡ next_of rules (record { now = lists visits lengths; ahead = from (length lengths) ahead })
        → Edited visits lengths visits' lengths' (made_by (lists visits lengths) e)
        → Going (next_of rules) limit start (moves + 1)
        (record { now = lists visits' lengths'; ahead = from (length lengths') (place_after (length lengths) e.place) })
    moved_on limit moves start ahead found e visits' lengths' g h is leads-on edited =
        rw (edited.holds, edited.number, ← length-lists visits lengths)
        (going_moves _ limit start moves _ _ g h (one_left (lists visits lengths) found e _ is leads-on))
