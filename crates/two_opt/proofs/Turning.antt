-- What a search for the next reversal leaves, as a run of any engine asks it: nothing found, and the list as it was; or the list turned round, and turned
-- back by the same reversal. Assumes nothing.
use mathlib.Core.Path.{◌≡◌, refl, sym, ap, ◌∙◌}
use mathlib.Core.List.{List, []}
use Prim.Native.Nat.{ℕ, ◌+◌}
use native.Mathlib.Omega.{arith}
use lib.ListN.{length}
use Rattle.std.specs.Prelude.{Option, Some, None}
use Rattle.labels.specs.Columns.{Columns, Visits}
use Rattle.engine.specs.Engine.{Leads}
use Rattle.reversal_places.specs.declared.Terms.{Terms}
use Rattle.reversal_places.specs.declared.Place.{Place}
use Rattle.reversal_places.specs.Places.{Worked, place_after}
use Rattle.reversal_places.proofs.Tried.{turned_back, turned-visits}
use Rattle.reversals.specs.Reversals.{from, next_turn, led, Searched}
use Rattle.reversals.proofs.Turns.{left_as_it_was, left-turned}
use Rattle.reversals.proofs.Places.{still_in, from_end, none_ahead}
use Rattle.two_opt.specs.TwoOpt.{at, Ready, Apt, before}

-- it starts with nothing ahead
pub at_start : (xs : List ℕ) → at xs (record { first = length xs; last = length xs + 1 }) ≡ record { now = xs; ahead = [] }
at_start xs = rw (from_end (length xs) _ (none_ahead (length xs)) (omega arith))

module _ (c : Columns) (t : Terms) (xs ys : List ℕ) (ahead : Place) (worked : Worked c t) (visits : Visits c.l xs) where
  pub searched : (r : Option Place) → Searched (next_turn c t (at xs ahead)) xs ys r
      → Leads (next_turn c t (at xs ahead)) (at xs ahead) (at ys ahead) (Apt c t ys) (before ys ahead) (λ m. at ys (place_after (length ys) m)) r
  unfolding Leads led
  searched None s = (sym s.leads, ap (λ (l : List ℕ). at l ahead) (left_as_it_was s refl))
  searched (Some p) s =
      let turn = left-turned p s refl in (
        (
          worked,
          rw turn.becomes (turned-visits c.l xs p turn.ordered visits),
          turn.ordered,
          rw turn.same_length turn.there,
        ),
        ap (λ (l : List ℕ). record { now = l; ahead = from (length ys) ahead }) (turned_back xs ys _ p turn.ordered turn.there turn.becomes refl)
            ∙ ap (λ (n : ℕ). record { now = xs; ahead = from n ahead }) turn.same_length,
        sym s.leads ∙ rw (turn.same_length, turn.becomes) refl,
      )

-- a reversal that was made is kept: the sweep goes on behind it
pub ready_on : (c : Columns) (t : Terms) (xs : List ℕ) (p next : Place) → Apt c t xs p → next ≡ place_after (length xs) p → Ready c t xs next
ready_on c t xs p next apt e = (apt.0, apt.1, rw e (still_in (length xs) p apt.2 apt.3))
