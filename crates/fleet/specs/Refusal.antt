-- What refusals 11 and 12, and 6 and 7 of every van of a fleet, ask, as document 01's table has it. Assumes nothing.
use Rattle.std.specs.Prelude.{ℕ, ◌≤◌, ◌≡◌, Bool, true, ◌&&◌, List, leb, ℤ, length, Float}
use Rattle.std.proofs.Common.{eqb-true, leb-true}
use Rattle.tests.specs.All.{all_below, unless, passed, and_first, and_second}
use Rattle.day.specs.Refusal.{column_ok, all_plain, is_depot, van_ok}
use Rattle.fleet.specs.Fleet.{Fleet, van_at, Fitted}

-- ---- 11 | fleet | over 16 vans, or list columns not one entry a list

-- the columns that every van uses have an entry a van, the number of vans being given
unfoldable pub cost_columns_ok : ℕ → List ℕ → List ℤ → List Float → List Float → List ℕ → Bool
cost_columns_ok n depots capacities per-distance fixed flags =
    column_ok n depots && (column_ok n capacities && (column_ok n per-distance && (column_ok n fixed && column_ok n flags)))

-- and so have those of the limits and the break
unfoldable pub limit_columns_ok : ℕ → List Float → List Float → List Float → List Float → List Float → Bool
limit_columns_ok n most-distance most-duration earliest latest durations =
    column_ok n most-distance && (column_ok n most-duration && (column_ok n earliest && (column_ok n latest && column_ok n durations)))

-- 'Columns of the fleet of unlike lengths' (docs/DECISIONS.md, 27): each has an entry a van
unfoldable pub columns_ok : Fleet → Bool
columns_ok f =
    cost_columns_ok (length f.ids) f.depots f.capacities f.distance_costs f.fixed_costs f.flags
    && limit_columns_ok (length f.ids) f.max_distances f.max_durations f.earliest f.latest f.durations

-- the list columns, ids and prices, have one entry a list, the number of lists being given
unfoldable pub list_columns_ok : ℕ → List ℕ → List Float → Bool
list_columns_ok number ids prices = column_ok number ids && column_ok number prices

-- at most 16 vans, and every column of its length
unfoldable pub fleet_ok : Fleet → ℕ → List ℕ → List Float → Bool
fleet_ok f number ids prices = leb (length f.ids) 16 && (columns_ok f && list_columns_ok number ids prices)

-- ---- 6 and 7 | of every van

-- 6: every van's depot is a depot location
unfoldable pub depots_ok : List ℕ → Fleet → Bool
depots_ok flags f = all_below (λ k. is_depot flags (van_at f k).depot) (length f.ids)

-- 7: every van's numbers are in range
unfoldable pub vans_ok : Fleet → Bool
vans_ok f = all_below (λ k. van_ok (van_at f k)) (length f.ids)

-- ---- 12 | fleet | a starting price isn't plain

-- 12 where it is so, else 0
unfoldable pub prices_refusal : List Float → ℕ
prices_refusal prices = unless (all_plain prices) 12 0

-- ---- laws

-- columns of the right lengths
fitted_fine : (f : Fleet) → columns_ok f ≡ true → Fitted f
unfolding columns_ok cost_columns_ok limit_columns_ok
fitted_fine f h =
    let costs-ok = cost_columns_ok (length f.ids) f.depots f.capacities f.distance_costs f.fixed_costs f.flags in
    let limits-ok = limit_columns_ok (length f.ids) f.max_distances f.max_durations f.earliest f.latest f.durations in
    let costs = and_first costs-ok limits-ok h in
    let limits = and_second costs-ok limits-ok h in
    let n = length f.ids in
    let from-fixed = column_ok n f.fixed_costs && column_ok n f.flags in
    let from-distance = column_ok n f.distance_costs && from-fixed in
    let from-capacities = column_ok n f.capacities && from-distance in
    let c1 = and_second (column_ok n f.depots) from-capacities costs in
    let c2 = and_second (column_ok n f.capacities) from-distance c1 in
    let c3 = and_second (column_ok n f.distance_costs) from-fixed c2 in
    let from-latest = column_ok n f.latest && column_ok n f.durations in
    let from-earliest = column_ok n f.earliest && from-latest in
    let from-duration = column_ok n f.max_durations && from-earliest in
    let l1 = and_second (column_ok n f.max_distances) from-duration limits in
    let l2 = and_second (column_ok n f.max_durations) from-earliest l1 in
    let l3 = and_second (column_ok n f.earliest) from-latest l2 in
    record {
      depots = eqb-true _ _ (and_first (column_ok n f.depots) from-capacities costs);
      capacities = eqb-true _ _ (and_first (column_ok n f.capacities) from-distance c1);
      distance_costs = eqb-true _ _ (and_first (column_ok n f.distance_costs) from-fixed c2);
      fixed_costs = eqb-true _ _ (and_first (column_ok n f.fixed_costs) (column_ok n f.flags) c3);
      flags = eqb-true _ _ (and_second (column_ok n f.fixed_costs) (column_ok n f.flags) c3);
      max_distances = eqb-true _ _ (and_first (column_ok n f.max_distances) from-duration limits);
      max_durations = eqb-true _ _ (and_first (column_ok n f.max_durations) from-earliest l1);
      earliest = eqb-true _ _ (and_first (column_ok n f.earliest) from-latest l2);
      latest = eqb-true _ _ (and_first (column_ok n f.latest) (column_ok n f.durations) l3);
      durations = eqb-true _ _ (and_second (column_ok n f.latest) (column_ok n f.durations) l3);
    }

-- a fleet that passed the test of 11 has columns that fit its vans, at most 16, and list columns that fit the lists
pub columns_fine : (f : Fleet) (number : ℕ) (ids : List ℕ) (prices : List Float) → fleet_ok f number ids prices ≡ true
    → Fitted f × (length f.ids ≤ 16) × (length ids ≡ number) × (length prices ≡ number)
unfolding fleet_ok list_columns_ok
columns_fine f number ids prices h =
    let few = leb (length f.ids) 16 in
    let lists-ok = column_ok number ids && column_ok number prices in
    let rest = and_second few (columns_ok f && lists-ok) h in
    let lists = and_second (columns_ok f) lists-ok rest in (
      fitted_fine f (and_first (columns_ok f) lists-ok rest),
      leb-true _ _ (and_first few (columns_ok f && lists-ok) h),
      eqb-true _ _ (and_first (column_ok number ids) (column_ok number prices) lists),
      eqb-true _ _ (and_second (column_ok number ids) (column_ok number prices) lists),
    )

-- prices that aren't refused are plain
pub prices_fine : (prices : List Float) → prices_refusal prices ≡ 0 → all_plain prices ≡ true
unfolding prices_refusal
prices_fine prices h = (passed _ _ _ h tt).0
