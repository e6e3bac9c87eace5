-- What every run of soft tail exchange keeps, whatever its numbers: each exchange that passes leaves both lists within the capacity, so that it is a permitted
-- move of tail exchange where every list passes, and those keep every sum over the visits and the capacities. And `stopped` comes exactly at the limit.
use mathlib.Core.Path.{◌≡◌, refl, ◌∙◌}
use mathlib.Core.Bool.{true, ◌&&◌}
use mathlib.Core.Option.{some}
use mathlib.Core.List.{List, [], ◌∷◌}
use Prim.Native.Nat.{ℕ, ◌≤◌}
use lib.IntN.{ℤ, nat_abs}
use lib.ListN.{length, get_or}
use lib.Ieee.{Float}
use Rattle.day.specs.declared.vehicle.RouteLimits.{RouteLimits}
use lib.Dec.{eqb}
use Rattle.edits.specs.Total.{total, bit, count}
use Rattle.labels.specs.Columns.{Columns}
use Rattle.evaluation.specs.Route.{effective_cost}
use Rattle.descent.specs.Order.{◌∈◌, here}
use Rattle.descent.specs.Permitted.{Measure, Checks, room, Permitted, tail_exchange}
use Rattle.descent.specs.Search.{stopped, Search, Judge, Sweep, Outcome, ok, next}
use Rattle.descent.specs.Across.{at, Pair, Tails, pairs, new1, new2}
use Rattle.descent.specs.Claim.{Steps, dropped}
use Rattle.descent.specs.Always.{Always}
use Rattle.descent.proofs.Members.{and_parts, and_both, not_in}
use Rattle.descent.proofs.Runs.{ran, chain_map, chain_keeps}
use Rattle.descent.proofs.Kept.{Kept, kept_same, kept_on, permitted_keeps}
use Rattle.descent.proofs.Sweeps.{next-some}
use Rattle.descent.proofs.Claims.{Tried, handed-total}
use Rattle.descent.proofs.Demand3.{faithful}
use Rattle.loads.specs.Loads.{boxes_of, boxes}
use Rattle.tail_prices.specs.Tails.{priced, soft_exchange_search, soft_exchange_judge}
use Rattle.soft_exchange.specs.SoftExchange.{soft_exchange_run}

-- the loads are tested, and nothing else
abbrev pub loads_only : List Measure → Checks
loads_only measures = record { measures = measures; passes = λ list. true }

module _ (measures : List Measure) (cost : List ℕ → Float) (judge : Judge (List (List ℕ)) Tails Float) where
  abbrev search_here : Search (List (List ℕ)) Pair Tails
  search_here = soft_exchange_search measures cost

  -- an exchange that passes leaves two lists that fit
  passes_both : (ls : List (List ℕ)) (t : Tails) → search_here.passes ls t ≡ true
      → ((room measures (new1 ls t) && true) && (room measures (new2 ls t) && true)) ≡ true
  passes_both ls t e =
      let loads = (and_parts (room measures (new1 ls t) && room measures (new2 ls t)) (priced cost (at ls t.pair.one) (at ls t.pair.other)) e).0 in
      let each-load = and_parts (room measures (new1 ls t)) (room measures (new2 ls t)) loads in
      and_both (room measures (new1 ls t) && true) (room measures (new2 ls t) && true) (and_both (room measures (new1 ls t)) true each-load.0 refl)
      (and_both (room measures (new2 ls t)) true each-load.1 refl)

  Among : Sweep (List (List ℕ)) Pair → Type 0
  Among s = (p : Pair) → p ∈ s.ahead → p ∈ pairs (length s.now)

  -- each step is a permitted move
  step : (a b : Sweep (List (List ℕ)) Pair) → Among a → next search_here judge a ≡ some b
      → Among b × Permitted tail_exchange (loads_only measures) a.now b.now
  unfolding ok Among
  step a b among q =
      let x = a.now in
      let f = next-some search_here judge a b among q in
      let m = f.move in
      let tried : Tried tail_exchange (loads_only measures) x m = record { place = f.place; place_in = f.place_in; move_in = f.move_in } in
      let both = and_parts (judge.counts (judge.delta x m)) (search_here.passes x m) f.move_ok in
      let trusted = faithful tail_exchange (loads_only measures) tt in
      let permitted = trusted.permits x m tried (passes_both x m both.1) in
      ((λ p h. rw (f.is, trusted.places_stay x (search_here.made x m) permitted) (f.ahead_in p h)), rw f.is permitted)

module _ (c : Columns) (demand : List ℤ) (limits : RouteLimits) (capacity : ℤ) (depot : ℕ) (floor : Float) (limit : ℕ) (lent : List (List ℕ)) where
  abbrev checks : Checks
  checks = loads_only (boxes demand capacity ∷ [])

  abbrev outcome : Outcome (Sweep (List (List ℕ)) Pair)
  outcome = soft_exchange_run c demand limits capacity depot floor limit lent

  -- exactly so many permitted moves lead from the lists lent to those that the last move left
  pub soft_exchange_chain : Steps (Permitted tail_exchange checks) outcome.moves lent outcome.last.now
  unfolding soft_exchange_run Among
  soft_exchange_chain =
      let measures = boxes demand capacity ∷ [] in
      let cost = effective_cost c limits depot in
      let judge = soft_exchange_judge cost floor in
      let told = ran (next (soft_exchange_search measures cost) judge) limit (record { now = lent; ahead = [] }) in
      (chain_map (Permitted tail_exchange checks) (λ s. s.now) (Among measures cost judge) (step measures cost judge) (λ p h. not_in h) told.chain).1

  pub soft_exchange_kept : Kept checks lent outcome.last.now
  soft_exchange_kept =
      chain_keeps (Kept checks) (kept_same checks) (λ x y z r k. kept_on checks x y z (permitted_keeps tail_exchange checks x y r) k) soft_exchange_chain

  -- every total over the visits of all lists, and so the same offices
  pub soft_exchange_same : (f : ℕ → ℕ) → total (total f) outcome.last.now ≡ total (total f) lent
  soft_exchange_same f = soft_exchange_kept.sums f

  -- a list that met the capacity is within it
  pub soft_exchange_loads : (r : ℕ) → total (boxes_of demand) (get_or lent r []) ≤ nat_abs capacity
      → total (boxes_of demand) (get_or outcome.last.now r []) ≤ nat_abs capacity
  soft_exchange_loads r h = soft_exchange_kept.loads (boxes demand capacity) here r h

  -- stopped exactly at the limit
  pub soft_exchange_stops : outcome.word ≡ stopped → outcome.moves ≡ limit
  unfolding soft_exchange_run
  soft_exchange_stops w =
      let cost = effective_cost c limits depot in
      ((ran (next (soft_exchange_search (boxes demand capacity ∷ []) cost) (soft_exchange_judge cost floor)) limit (record { now = lent; ahead = [] })).stops w).0

  -- all of this as the entries state it, the planner's dropping of empty lists included
  pub soft_exchange_always : Always tail_exchange checks limit lent outcome.last.now (dropped outcome.last.now) outcome.moves outcome.word
  soft_exchange_always = record {
    chain = soft_exchange_chain;
    dropping = refl;
    offices = λ x. handed-total (count x) refl tail_exchange outcome.last.now ∙ soft_exchange_same (λ v. bit (eqb x v));
    loads = soft_exchange_kept.loads;
    stops = soft_exchange_stops;
  }
