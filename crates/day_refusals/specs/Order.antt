-- The order of refusals 1 to 5, and what a day that is not refused tells. Assumes nothing.
use Rattle.std.specs.Prelude.{ℕ, ◌≤◌, ◌≡◌, true, ◌&&◌}
use Rattle.tests.specs.All.{unless, passed, and_first, and_second}
use Rattle.day.specs.Day.{Day}
use Rattle.day.specs.Customer.{num_depots}
use Rattle.day.specs.Refusal.{size_ok, lengths_ok, all_plain, locations_ok, depots_lead, windows_ok}
use Rattle.day.specs.Fine.{Shaped, shaped, depots_within}

-- ---- 'The order is by number'

-- the first of 3 to 5 that the day meets, and 0 where it meets none
unfoldable pub contents_refusal : Day → ℕ
contents_refusal d =
    unless (all_plain d.distances && all_plain d.times) 3
    (unless (locations_ok d.l d.flags d.demand d.service d.penalty && depots_lead d.flags) 4
    (unless (windows_ok d.l d.flags d.ready d.due) 5 0))

-- the first of 1 to 5 that the day meets, and 0 where it meets none
unfoldable pub day_refusal : Day → ℕ
day_refusal d = unless (size_ok d.l) 1 (unless (lengths_ok d) 2 (contents_refusal d))

-- what a day that is not refused tells
pub record DayFine (d : Day) : Type 0 where
  pub shaped : Shaped d
  pub distances : all_plain d.distances ≡ true
  pub times : all_plain d.times ≡ true
  pub locations : locations_ok d.l d.flags d.demand d.service d.penalty ≡ true
  pub lead : depots_lead d.flags ≡ true
  pub windows : windows_ok d.l d.flags d.ready d.due ≡ true
  pub depots : num_depots d.flags ≤ d.l

-- ---- laws

-- a day that is not refused is fine
pub day_fine : (d : Day) → day_refusal d ≡ 0 → DayFine d
unfolding day_refusal contents_refusal
day_fine d h =
    let one = passed _ _ _ h tt in
    let two = passed _ _ _ one.1 tt in
    let three = passed _ _ _ two.1 tt in
    let four = passed _ _ _ three.1 tt in
    let five = passed _ _ _ four.1 tt in
    let s = shaped d one.0 two.0 in
    let locations = locations_ok d.l d.flags d.demand d.service d.penalty in
    record {
      shaped = s;
      distances = and_first (all_plain d.distances) (all_plain d.times) three.0;
      times = and_second (all_plain d.distances) (all_plain d.times) three.0;
      locations = and_first locations (depots_lead d.flags) four.0;
      lead = and_second locations (depots_lead d.flags) four.0;
      windows = five.0;
      depots = rw (← s.flags) (depots_within d.flags (rw s.flags s.some));
    }
