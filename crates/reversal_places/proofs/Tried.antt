-- One place: what a reversal keeps, and that the code's two tests, of the delta and of the list turned round, are the definition's one. Assumes nothing.
use mathlib.Core.Path.{◌≡◌, refl, sym, ap, ◌∙◌}
use mathlib.Core.Bool.{Bool, true, false, ◌&&◌, ◌||◌}
use mathlib.Core.List.{List}
use Prim.Native.Nat.{ℕ, ◌+◌, ◌<◌}
use native.Mathlib.Omega.{arith}
use native.Mathlib.Numerals.{add-one}
use lib.ListN.{length}
use lib.Dec.{ltb}
use lib.Ieee.{Float}
use borrow.Author.Tests.{lt-ltb, ltb-true}
use Rattle.std.specs.Prelude.{Some}
use Rattle.numbers.specs.Floor.{counts}
use Rattle.tests.specs.All.{stop, go}
use Rattle.day.specs.Matrix.{leg}
use Rattle.day.specs.Customer.{has_time_windows}
use Rattle.day.specs.Vehicle.{is_unlimited}
use Rattle.day.specs.declared.vehicle.VehicleBreak.{VehicleBreak}
use Rattle.edits.specs.Edits.{reversed}
use Rattle.edits.proofs.Kept.{same_reversed, same_each, length-reversed}
use Rattle.edits.proofs.Turns.{reversed_twice}
use Rattle.labels.specs.Columns.{Columns, Visits}
use Rattle.evaluation.specs.Route.{checks_needed}
use Rattle.descent.specs.Search.{ok}
use Rattle.descent.specs.Within.{turned}
use Rattle.deltas.specs.Deltas.{Marked, Listed, two_opt_delta}
use Rattle.reversal_places.specs.declared.Terms.{Terms}
use Rattle.reversal_places.specs.declared.Place.{Place}
use Rattle.reversal_places.specs.Places.{Worked, judging, reversal_at, turned_at, turned_passes, gains}

-- a reversal in the definition's words
pub turned_is : (xs : List ℕ) (p : Place) → turned xs (reversal_at p) ≡ turned_at xs p
unfolding reversed
turned_is xs p = rw (add-one p.last)

-- what a reversal keeps
pub turned-length : (xs : List ℕ) (p : Place) → p.first < p.last → length (turned_at xs p) ≡ length xs
turned-length xs p h = length-reversed p.first (p.last + 1) xs (omega arith)

pub turned-visits : (l : ℕ) (xs : List ℕ) (p : Place) → p.first < p.last → Visits l xs → Visits l (turned_at xs p)
turned-visits l xs p h v = record {
  few = rw (turned-length xs p h) v.few;
  below = λ k there. ltb-true _ _ (same_each (λ visit. ltb visit l) xs (turned_at xs p) (same_reversed p.first (p.last + 1) xs (omega arith))
      (λ i below. lt-ltb _ _ (v.below i below)) k there);
}

-- made twice, it leaves the list as it was
pub turned_back : (xs ys zs : List ℕ) (p : Place) → p.first < p.last → p.last < length xs → ys ≡ turned_at xs p → zs ≡ turned_at ys p → zs ≡ xs
turned_back xs ys zs p h k once twice =
    twice ∙ ap (λ (l : List ℕ). turned_at l p) once ∙ reversed_twice p.first (p.last + 1) xs (omega arith) (omega arith)

-- a van with a break has its lists checked
none_set : (a b : Bool) → a && (b && false) ≡ false
none_set true true = refl
none_set true false = refl
none_set false b = refl

or_so : (a : Bool) → a || true ≡ true
or_so true = refl
or_so false = refl

pub break_checked : (c : Columns) (t : Terms) (pause : VehicleBreak) → Worked c t → t.limits.rest ≡ Some pause → t.needed ≡ true
unfolding checks_needed is_unlimited
break_checked c t pause w e = w.needed ∙ rw (e, none_set) (or_so (has_time_windows c.flags))

-- what the delta asks
pub delta_asks : (c : Columns) (t : Terms) (xs : List ℕ) → Worked c t → Visits c.l xs
    → Marked c.l c.distances t.symmetric × Listed c.l t.depot xs
delta_asks c t xs w v = (
  record { right = w.symmetric; plain = w.plain },
  record { depot_there = w.depot_there; visits = v.below },
)

module _ (c : Columns) (t : Terms) (w : Worked c t) (xs : List ℕ) (p : Place) where
  module _ (delta : Float) (is : delta ≡ two_opt_delta (leg c.l c.distances) t.depot xs p.first p.last) (counted : Bool)
      (told : counted ≡ counts delta t.floor) where
    count_is : counted ≡ (judging c t).counts ((judging c t).delta xs (reversal_at p))
    count_is = rw (← w.floor, ← is) told

    -- it does not count
    pub no_gain : counted ≡ false → false ≡ gains c t xs p
    unfolding gains ok
    no_gain e = stop _ _ (sym count_is ∙ e)

    -- it counts: the check of the list turned round decides
    pub checked : counted ≡ true → (passed : Bool) → passed ≡ turned_passes c t xs p → passed ≡ gains c t xs p
    unfolding gains ok
    checked e passed told-so = go _ _ passed (sym count_is ∙ e) (rw (turned_is xs p, ← w.needed) told-so)
