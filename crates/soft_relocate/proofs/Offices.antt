-- A run keeps the offices and the capacity, whatever its numbers, and stops only at the limit: each candidate that it may take has room, so that it is a
-- move that document 01 permits relocate where every list passes, and those keep both.
use mathlib.Core.Path.{◌≡◌, refl, ◌∙◌}
use mathlib.Core.Bool.{Bool, true, false, ◌&&◌}
use mathlib.Core.Option.{some}
use mathlib.Core.List.{List, [], ◌∷◌}
use Prim.Native.Nat.{ℕ, ◌≤◌}
use lib.Dec.{eqb}
use lib.IntN.{ℤ}
use lib.ListN.{length, get_or}
use lib.Ieee.{Float}
use Rattle.day.specs.declared.vehicle.RouteLimits.{RouteLimits}
use Rattle.edits.specs.Total.{total, bit, count}
use Rattle.labels.specs.Columns.{Columns}
use Rattle.evaluation.specs.Route.{effective_cost}
use Rattle.descent.specs.Order.{here}
use Rattle.descent.specs.Permitted.{Measure, Checks, load, room, relocate, Permitted}
use Rattle.descent.specs.Search.{Sweep, stopped, ok, next}
use Rattle.descent.specs.Across.{at, receiver}
use Rattle.descent.specs.Claim.{Steps, handed}
use Rattle.descent.specs.Always.{Always}
use Rattle.descent.proofs.Members.{and_parts}
use Rattle.descent.proofs.Kept.{Kept, kept_same, kept_on, permitted_keeps}
use Rattle.descent.proofs.Claims.{handed-total}
use Rattle.descent.proofs.Demand3.{faithful}
use Rattle.descent.proofs.Runs.{ran, chain_map, chain_keeps}
use Rattle.descent.proofs.Sweeps.{next-some}
use Rattle.loads.specs.Loads.{boxes}
use Rattle.soft_places.specs.Prices.{priced, soft_relocate_search, soft_relocate_judge}
use Rattle.soft_relocate.specs.SoftRelocate.{soft_relocate_run}

-- room is all that is checked
abbrev pub roomy : List Measure → Checks
roomy measures = record { measures = measures; passes = λ list. true }

-- ---- one step

module _ (price : List ℕ → Float) (fixed : Float) (measures : List Measure) (floor : Float) where
  step : (a b : Sweep (List (List ℕ)) Unit) → Unit {0}
      → next (soft_relocate_search price fixed measures) (soft_relocate_judge price fixed floor) a ≡ some b
      → Unit {0} × Permitted (relocate false) (roomy measures) a.now b.now
  unfolding ok
  step a b good q =
      let search = soft_relocate_search price fixed measures in
      let judge = soft_relocate_judge price fixed floor in
      let f = next-some search judge a b (λ p h. here) q in
      let x = a.now in
      let m = f.move in
      let both = and_parts (judge.counts (judge.delta x m)) (search.passes x m) f.move_ok in
      let fits = (and_parts (room measures (receiver x m)) (priced price fixed (at x m.from) (at x m.to) m.position) both.1).0 in
      let permitted = (faithful (relocate false) (roomy measures) tt).permits x m
      (record { place = tt; place_in = here; move_in = f.move_in }) (free (room measures (receiver x m)) fits) in
      (tt, rw f.is permitted)
    where
      free : (b : Bool) → b ≡ true → ((b && true) && true) ≡ true
      free b e = rw e

-- ---- a run

module _ (c : Columns) (demand : List ℤ) (limits : RouteLimits) (capacity : ℤ) (fixed : Float) (depot : ℕ) (floor : Float) (limit : ℕ)
    (lent : List (List ℕ)) where
  -- what it checks
  abbrev checks : Checks
  checks = roomy (boxes demand capacity ∷ [])

  -- what its last move leaves
  abbrev ended : List (List ℕ)
  ended = (soft_relocate_run c demand limits capacity fixed depot floor limit lent).last.now

  chained : let run = soft_relocate_run c demand limits capacity fixed depot floor limit lent in
      Steps (Permitted (relocate false) checks) run.moves lent ended × (run.word ≡ stopped → run.moves ≡ limit)
  unfolding soft_relocate_run
  chained =
      let price = effective_cost c limits depot in
      let told = ran (next (soft_relocate_search price fixed (boxes demand capacity ∷ [])) (soft_relocate_judge price fixed floor)) limit
      (record { now = lent; ahead = [] }) in
      let seen = chain_map (Permitted (relocate false) checks) (λ s. s.now) (λ s. Unit {0}) (step price fixed (boxes demand capacity ∷ []) floor) tt
      told.chain in
      (seen.1, λ w. (told.stops w).0)

  kept : Kept checks lent ended
  kept = chain_keeps (Kept checks) (kept_same checks) (λ x y z r k. kept_on checks x y z (permitted_keeps (relocate false) checks x y r) k) chained.0

  -- what every engine's run keeps, for the entry
  pub always : let run = soft_relocate_run c demand limits capacity fixed depot floor limit lent in
      Always (relocate false) checks limit lent run.last.now (handed (relocate false) run.last.now) run.moves run.word
  always = record {
    chain = chained.0;
    dropping = refl;
    offices = λ x. handed-total (count x) refl (relocate false) ended ∙ kept.sums (λ v. bit (eqb x v));
    loads = kept.loads;
    stops = chained.1;
  }

  -- every sum over the offices of all lists
  pub same_offices : (f : ℕ → ℕ) → total (total f) ended ≡ total (total f) lent
  same_offices = kept.sums

  -- as many lists
  pub same_number : length ended ≡ length lent
  same_number = kept.number

  -- a list that met the capacity, by its number
  pub within_capacity : (r : ℕ) → load (boxes demand capacity) (get_or lent r []) ≤ (boxes demand capacity).capacity
      → load (boxes demand capacity) (get_or ended r []) ≤ (boxes demand capacity).capacity
  within_capacity r = kept.loads (boxes demand capacity) here r

  -- stopped comes exactly at the limit
  pub stopped-at_limit : let run = soft_relocate_run c demand limits capacity fixed depot floor limit lent in run.word ≡ stopped → run.moves ≡ limit
  stopped-at_limit = chained.1
