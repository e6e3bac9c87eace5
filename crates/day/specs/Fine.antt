-- What a day whose tables have the right lengths tells its callers. Assumes nothing.
use Rattle.std.specs.Prelude.{ℕ, suc, ◌*◌, ◌<◌, ◌≤◌, ◌≡◌, List, [], ◌∷◌, Bool, true, false, cond, ◌&&◌, ◌||◌, eqb, leb, ltb, length, Float}
use Rattle.std.proofs.Common.{zero-le, suc-le-suc, arith, true≢false, eqb-true, leb-true, ltb-true, ne_eqb}
use Rattle.tests.specs.All.{and_first, and_second}
use Rattle.day.specs.Day.{Day, bit0}
use Rattle.day.specs.Matrix.{Tables}
use Rattle.day.specs.Customer.{leading, num_depots}
use Rattle.day.specs.Refusal.{size_ok, column_ok, tables_ok, lengths_ok}

-- each table has the length that L asks, and L is 1 to 64
pub record Shaped (d : Day) : Type 0 where
  pub some : 0 < d.l
  pub few : d.l ≤ 64
  pub flags : length d.flags ≡ d.l
  pub demand : length d.demand ≡ d.l
  pub service : length d.service ≡ d.l
  pub ready : length d.ready ≡ d.l
  pub due : length d.due ≡ d.l
  pub penalty : length d.penalty ≡ d.l
  pub tables : Tables d.l d.distances d.times

-- ---- laws

-- the size is right
pub size_fine : (l : ℕ) → size_ok l ≡ true → (0 < l) × (l ≤ 64)
unfolding size_ok
size_fine l h = (ltb-true 0 l (and_first (ltb 0 l) (leb l 64) h), leb-true l 64 (and_second (ltb 0 l) (leb l 64) h))

times_fine : (l : ℕ) (n : ℕ) → eqb n 0 || eqb n (l * l) ≡ true → (n ≡ 0 → ⊥) → n ≡ l * l
times_fine l n h some = eqb-true n (l * l) (or_second (eqb n 0) (eqb n (l * l)) h (ne_eqb n 0 some))
  where
    or_second : (a b : Bool) → a || b ≡ true → a ≡ false → b ≡ true
    or_second true b h e = absurd (true≢false e)
    or_second false b h e = h

tables_fine : (l : ℕ) (distances times : List Float) → l ≤ 64 → tables_ok l distances times ≡ true → Tables l distances times
unfolding tables_ok
tables_fine l distances times few h =
    let first = eqb (length distances) (l * l) in
    let rest = eqb (length times) 0 || eqb (length times) (l * l) in
    record {
      of_distances = record { few = few; size = eqb-true _ _ (and_first first rest h) };
      of_times = λ some. record { few = few; size = times_fine l (length times) (and_second first rest h) some };
    }

-- the lengths are right
pub shaped : (d : Day) → size_ok d.l ≡ true → lengths_ok d ≡ true → Shaped d
unfolding lengths_ok
shaped d s h =
    let size = size_fine d.l s in
    let tables = tables_ok d.l d.distances d.times in
    let from-penalty = column_ok d.l d.penalty && tables in
    let from-due = column_ok d.l d.due && from-penalty in
    let from-ready = column_ok d.l d.ready && from-due in
    let from-service = column_ok d.l d.service && from-ready in
    let from-demand = column_ok d.l d.demand && from-service in
    let h1 = and_second (column_ok d.l d.flags) from-demand h in
    let h2 = and_second (column_ok d.l d.demand) from-service h1 in
    let h3 = and_second (column_ok d.l d.service) from-ready h2 in
    let h4 = and_second (column_ok d.l d.ready) from-due h3 in
    let h5 = and_second (column_ok d.l d.due) from-penalty h4 in
    record {
      some = size.0;
      few = size.1;
      flags = eqb-true _ _ (and_first (column_ok d.l d.flags) from-demand h);
      demand = eqb-true _ _ (and_first (column_ok d.l d.demand) from-service h1);
      service = eqb-true _ _ (and_first (column_ok d.l d.service) from-ready h2);
      ready = eqb-true _ _ (and_first (column_ok d.l d.ready) from-due h3);
      due = eqb-true _ _ (and_first (column_ok d.l d.due) from-penalty h4);
      penalty = eqb-true _ _ (and_first (column_ok d.l d.penalty) tables h5);
      tables = tables_fine d.l d.distances d.times size.1 (and_second (column_ok d.l d.penalty) tables h5);
    }

-- no more locations lead the table than it has
pub leading_within : (flags : List ℕ) → leading flags ≤ length flags
unfolding leading
leading_within [] = zero-le
leading_within (f ∷ fs) = go (bit0 f) (leading_within fs)
  where
    go : (b : Bool) → leading fs ≤ length fs → cond b (suc (leading fs)) 0 ≤ suc (length fs)
    go true h = suc-le-suc h
    go false h = zero-le

-- the depots are locations
pub depots_within : (flags : List ℕ) → 0 < length flags → num_depots flags ≤ length flags
unfolding num_depots
depots_within flags h = omega (arith, leading_within flags)
