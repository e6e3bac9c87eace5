-- The entry across depots: a refused call changes nothing; otherwise the tables hold what the run left, and what every run keeps of the loads can be read
-- off them, since behind the lists handed back there are only lengths of 0. Assumes nothing.
use Prim.Native.Nat.{ℕ, zero, suc, ◌-◌, ◌≤◌}
use mathlib.Core.Path.{◌≡◌, refl, ap, ◌∙◌}
use mathlib.Core.List.{List, [], ◌∷◌, ◌++◌}
use Rattle.std.specs.Prelude.{Result, Ok}
use Rattle.std.specs.Result.{IsErrAnd}
use native.Mathlib.Omega.{arith}
use native.Mathlib.Nat.{lt_of_lt_of_le}
use lib.IntN.{ℤ}
use lib.Ieee.{Float}
use lib.ListN.{length, get_or, take, replicate}
use lib.Seq.{get_or-take}
use Rattle.day.specs.Day.{Day}
use Rattle.day.specs.Customer.{num_depots}
use Rattle.day.specs.Number.{number, number_some}
use Rattle.day.specs.declared.refusal.Refusal.{Refusal}
use Rattle.fleet.specs.Fleet.{Fleet, Crewed}
use Rattle.edits.specs.Total.{SameVisits}
use Rattle.lists.specs.Table.{lists}
use Rattle.labels.specs.Columns.{Columns, columns_of, formed}
use Rattle.loads.proofs.Boxes.{loaded_of}
use Rattle.loads.proofs.Tables.{held_of}
use Rattle.cross_moves.specs.CrossDepot.{Carried, cross_ran}
use Rattle.loads.specs.Loads.{Held}
use Rattle.cross_choices.specs.Scan.{Asked}
use Rattle.cross_runs.specs.Tables.{Handed, crossed_of}
use Rattle.cross_runs.specs.declared.Crossed.{Crossed}
use Rattle.refusals.specs.Refusal.{refusal_of_fleet, FineFleet}
use Rattle.refusals.specs.Answered.{refused_as, refused_by, handed_on, answered}
use Rattle.rearrangements.specs.Rearrange.{rearranged_of, padded, remaining_in}
use Rattle.crossings.specs.CrossDepot.{cross_on, cross_report, padded_ids, cross_answer, cross_visits, cross_lengths, cross_ids}
use Rattle.rearrangements.specs.declared.Rearranged.{Rearranged}
use Rattle.rearrangements.proofs.Rearranging.{rearranged_as_lem, reports_over, lists_back, capacity_above}

-- ---- what the engine asks

one_depot : (flags : List ℕ) → 1 ≤ num_depots flags
unfolding num_depots
one_depot flags = omega arith

module _ (d : Day) (fleet : Fleet) (visits lengths ids : List ℕ) (prices : List Float) (f : FineFleet d fleet visits lengths ids prices) where
  pub asked : Asked (columns_of d) d.demand
  asked = record {
    formed = formed f.day.shaped;
    loaded = loaded_of d.l d.flags d.demand d.service d.penalty f.day.shaped.demand f.day.locations;
  }

  pub crewed : Crewed d.l fleet
  crewed = record {
    fitted = f.vans.fitted;
    few = f.vans.few;
    driven = λ k there.
        record {
          depot_there = lt_of_lt_of_le (f.vans.vans k there).depot f.day.depots;
          capacity = capacity_above _ (f.vans.vans k there).van;
        };
  }

  pub held : Held d.l visits lengths × (length ids ≡ length lengths) × (length prices ≡ length lengths)
  held = (
    held_of (num_depots d.flags) d.l visits lengths (omega (arith, one_depot d.flags, f.day.shaped.few)) f.table,
    f.vans.ids_fit,
    f.vans.prices_fit,
  )

-- ---- the loads, read off the tables

zeros_only : (m k : ℕ) → ◌≡◌ {A = ℕ} (get_or (replicate m 0) k 0) 0
zeros_only zero k = refl
zeros_only (suc m) zero = refl
zeros_only (suc m) (suc k) = zeros_only m k

zeros_behind : (xs : List ℕ) (m k : ℕ) → get_or (xs ++ replicate m 0) k 0 ≡ get_or xs k 0
zeros_behind [] m k = zeros_only m k
zeros_behind (x ∷ xs) m zero = refl
zeros_behind (x ∷ xs) m (suc k) = zeros_behind xs m k

module _ (demand : List ℤ) (fleet : Fleet) (lent : List (List ℕ)) (lent-ids : List ℕ) where
  -- the first ids of the table are those of the lists
  carried_by : (back : List (List ℕ)) (back-ids : List ℕ) (m : ℕ) → Carried demand fleet lent lent-ids back back-ids
      → Carried demand fleet lent lent-ids back (take (length back) (back-ids ++ replicate m 0))
  carried_by back back-ids m holds k there =
      rw (get_or-take (length back) (back-ids ++ replicate m 0) k 0 there, zeros_behind back-ids m k) (holds k there)

-- ---- a call

module _ (d : Day) (fleet : Fleet) (visits lengths ids : List ℕ) (prices : List Float) (limit : ℕ) where
  -- what a refused call answers and leaves
  pub refused_cross : (x : Result Rearranged Refusal) (r : Refusal) → IsErrAnd x (λ y. y ≡ r) → number r ≡ refusal_of_fleet d fleet visits lengths ids prices
      → (x ≡ cross_answer d fleet visits lengths ids prices limit) × (visits ≡ cross_visits d fleet visits lengths ids prices limit)
      × (lengths ≡ cross_lengths d fleet visits lengths ids prices limit) × (ids ≡ cross_ids d fleet visits lengths ids prices limit)
  unfolding cross_answer cross_visits cross_lengths cross_ids
  refused_cross x r handed e = (
    handed_on _ x r _ handed e,
    refused_by (λ m. visits) _ (number r) _ (number_some r) e,
    refused_by (λ m. lengths) _ (number r) _ (number_some r) e,
    refused_by (λ m. ids) _ (number r) _ (number_some r) e,
  )

  module _ (none : 0 ≡ refusal_of_fleet d fleet visits lengths ids prices) (visits' lengths' ids' : List ℕ) (end : Crossed)
      (r : Rearranged) (ends : end ≡ crossed_of (cross_on d fleet visits lengths ids prices limit))
      (handed : Handed (cross_on d fleet visits lengths ids prices limit).lists (cross_on d fleet visits lengths ids prices limit).ids (length lengths)
      visits' lengths' ids') (answer : r ≡ rearranged_of end.ended end.lists) where
    reported : r ≡ cross_report (cross_on d fleet visits lengths ids prices limit)
    unfolding cross_report
    reported =
        let ran = cross_on d fleet visits lengths ids prices limit in
        answer ∙ ap (λ (x : Crossed). rearranged_of x.ended x.lists) ends ∙ rearranged_as_lem ran.word ran.moves (length ran.lists)

    -- what a call that isn't refused answers and leaves
    pub answered_cross : (Ok r ≡ cross_answer d fleet visits lengths ids prices limit) × (visits' ≡ cross_visits d fleet visits lengths ids prices limit)
        × (lengths' ≡ cross_lengths d fleet visits lengths ids prices limit) × (ids' ≡ cross_ids d fleet visits lengths ids prices limit)
    unfolding cross_answer cross_visits cross_lengths cross_ids padded padded_ids
    answered_cross = (
      answered refused_as _ 0 _ _ refl none (ap Ok reported),
      answered (λ m. visits) _ 0 _ _ refl none handed.visits_are,
      answered (λ m. lengths) _ 0 _ _ refl none handed.lengths_are,
      answered (λ m. ids) _ 0 _ _ refl none handed.ids_are,
    )

    -- what the run keeps of the loads, of the lists that the answer and the tables tell
    pub carried_off : (let ran = cross_on d fleet visits lengths ids prices limit in
        Carried d.demand fleet (lists visits lengths) ids ran.lists ran.ids)
        → Carried d.demand fleet (lists visits lengths) ids (take (remaining_in (Ok r)) (lists visits' lengths')) (take (remaining_in (Ok r)) ids')
    unfolding cross_report padded
    carried_off holds =
        let ran = cross_on d fleet visits lengths ids prices limit in
        let told = reports_over ran.word ran.moves (length ran.lists) in
        rw (reported, told.1, handed.visits_are, handed.lengths_are, handed.ids_are, lists_back (length lengths) ran.lists)
        (carried_by d.demand fleet (lists visits lengths) ids ran.lists ran.ids (length lengths - length ran.lists) holds)

  -- all that a call that isn't refused shows, of what the run ensures on the columns built
  pub ended_cross : 0 ≡ refusal_of_fleet d fleet visits lengths ids prices → (c : Columns) → c ≡ columns_of d
      → (visits' lengths' ids' : List ℕ) (end : Crossed) (r : Rearranged)
      → (let ran = cross_ran c d.demand fleet limit (lists visits lengths) ids prices in
      (end ≡ crossed_of ran) × Handed ran.lists ran.ids (length lengths) visits' lengths' ids' × SameVisits visits visits'
      × Carried d.demand fleet (lists visits lengths) ids ran.lists ran.ids)
      → r ≡ rearranged_of end.ended end.lists
      → (Ok r ≡ cross_answer d fleet visits lengths ids prices limit) × (visits' ≡ cross_visits d fleet visits lengths ids prices limit)
      × (lengths' ≡ cross_lengths d fleet visits lengths ids prices limit) × (ids' ≡ cross_ids d fleet visits lengths ids prices limit)
      × SameVisits visits visits'
      × Carried d.demand fleet (lists visits lengths) ids (take (remaining_in (Ok r)) (lists visits' lengths')) (take (remaining_in (Ok r)) ids')
  unfolding cross_on
  ended_cross none c built visits' lengths' ids' end r held answer =
      let ran = rw built at held in
      let is = answered_cross none visits' lengths' ids' end r ran.0 ran.1 answer in
      (is.0, is.1, is.2, is.3, ran.2, carried_off none visits' lengths' ids' end r ran.0 ran.1 answer ran.3)
