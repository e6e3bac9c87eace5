-- A place where no way is below minus the floor has no move: each turn of the scan leaves the best as it started. Assumes nothing.
use mathlib.Core.Path.{◌≡◌, refl}
use mathlib.Core.Bool.{Bool, true, false, true≢false, ◌||◌}
use mathlib.Core.List.{List}
use Prim.Native.Nat.{ℕ, ◌+◌, ◌<◌}
use native.Mathlib.Omega.{arith}
use lib.Ieee.{neg}
use Rattle.day.specs.Matrix.{leg}
use Rattle.labels.specs.Columns.{Columns}
use Rattle.descent.specs.Search.{taken}
use Rattle.deltas.specs.Deltas.{cut_at}
use Rattle.deltas.specs.declared.Cut.{Cut}
use Rattle.std.specs.Prelude.{None}
use Rattle.layouts.specs.Layout.{arrangement, nth_way}
use Rattle.layouts.specs.declared.Way.{Way}
use Rattle.engine.specs.Best.{found_as}
use Rattle.engine.proofs.Choosing.{onto_starts, turn_one, end_one}
use Rattle.reconnections.specs.Reconnections.{cut_of, reconnection}
use Rattle.patterns.specs.Patterns.{search_of, judge_of, Prepared, nth_candidate, Onto}
use Rattle.patterns.specs.Below.{below, any_below}
use Rattle.patterns.specs.declared.Setup.{Setup}
use Rattle.reconnections.specs.declared.Place.{Place}
use Rattle.patterns.proofs.Choosing.{candidates_from, nothing, known_start, all_chosen}
use Rattle.patterns.proofs.Judging.{better_far}

-- where none of seven holds, each does not
none_holds : (a b c d e f g : Bool) → (a || (b || (c || (d || (e || (f || g)))))) ≡ false
    → (a ≡ false) × (b ≡ false) × (c ≡ false) × (d ≡ false) × (e ≡ false) × (f ≡ false) × (g ≡ false)
none_holds true b c d e f g h = absurd (true≢false h)
none_holds false true c d e f g h = absurd (true≢false h)
none_holds false false true d e f g h = absurd (true≢false h)
none_holds false false false true e f g h = absurd (true≢false h)
none_holds false false false false true f g h = absurd (true≢false h)
none_holds false false false false false true g h = absurd (true≢false h)
none_holds false false false false false false g h = (refl, refl, refl, refl, refl, refl, h)

module _ (s : Setup) (c : Columns) (xs : List ℕ) (place : Place) (cut : Cut) (ready : Prepared s c)
    (is_cut : cut ≡ cut_at (leg c.l c.distances) s.depot xs place.i place.j place.k) where
  abbrev At : ℕ → Type 0
  At number = Onto c s xs place (nothing c s xs place) (candidates_from c s xs place 0) (nothing c s xs place) (candidates_from c s xs place number)

  -- a way that is not below leaves the best as it started
  skip : (number : ℕ) (way : Way) → number < 7 → arrangement way ≡ nth_way number
      → below (leg c.l c.distances) cut (neg s.floor) way.exchanged way.b_turned way.c_turned ≡ false → At number → At (number + 1)
  skip number way h is-way e at =
      turn_one _ _ _ _ _ _ _ (nth_candidate place) (nothing c s xs place) number 7 h at
      (better_far s c xs place cut (nothing c s xs place) number way _ is_cut is-way refl (known_start c s xs place ready) e)

  pub none_below : any_below (leg c.l c.distances) cut (neg s.floor) ≡ false
      → found_as (reconnection place) None ≡ taken (search_of c s.limits s.depot) (judge_of c s.depot) xs (cut_of place)
  unfolding any_below
  none_below h =
      let no = none_holds (is false false true) (is false true false) (is false true true) (is true false false) (is true true false)
      (is true false true) (is true true true) h in
      let at0 : At 0 = onto_starts _ _ _ _ (nothing c s xs place) _ (known_start c s xs place ready) in
      let at1 : At 1 = skip 0 (way false false true) (omega arith) refl no.0 at0 in
      let at2 : At 2 = skip 1 (way false true false) (omega arith) refl no.1 at1 in
      let at3 : At 3 = skip 2 (way false true true) (omega arith) refl no.2 at2 in
      let at4 : At 4 = skip 3 (way true false false) (omega arith) refl no.3 at3 in
      let at5 : At 5 = skip 4 (way true true false) (omega arith) refl no.4 at4 in
      let at6 : At 6 = skip 5 (way true false true) (omega arith) refl no.5 at5 in
      let at7 : At 7 = skip 6 (way true true true) (omega arith) refl no.6 at6 in
      all_chosen c s xs place (nothing c s xs place) (nothing c s xs place) refl
      (end_one (reconnection place) _ _ _ _ _ _ (nth_candidate place) 7 7 (omega arith) at7)
    where
      is : Bool → Bool → Bool → Bool
      is exchanged b-turned c-turned = below (leg c.l c.distances) cut (neg s.floor) exchanged b-turned c-turned

      way : Bool → Bool → Bool → Way
      way exchanged b-turned c-turned = record { exchanged = exchanged; b_turned = b-turned; c_turned = c-turned }
