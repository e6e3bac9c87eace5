-- Demand 3 of the entries within a list: without a soft window the run is that of the definition of demand 3, judged by f64 deltas that are exact on whole
-- distances (deltas, `float_demand_3`), and the list handed back is the one that it left. Assumes nothing but the premises of demand 3.
use Prim.Native.Nat.{ℕ, zero, suc}
use mathlib.Core.Path.{◌≡◌, refl, sym, subst}
use mathlib.Core.Option.{Option, none, some}
use Rattle.std.specs.Prelude.{Ok}
use mathlib.Core.List.{List}
use native.Mathlib.Omega.{arith}
use Rattle.day.specs.Day.{Day}
use Rattle.day.specs.Vehicle.{limits_of}
use Rattle.day.specs.declared.vehicle.Van.{Van}
use Rattle.lists.specs.Table.{list_of}
use Rattle.labels.specs.Columns.{columns_of}
use Rattle.descent.specs.Permitted.{two_opt, or_opt, three_opt, n_minus_length}
use Rattle.descent.specs.Search.{Word, settled, stopped}
use Rattle.descent.specs.Engines.{run_of}
use Rattle.descent.specs.Claim.{Claim}
use Rattle.deltas.specs.Judged.{roads_of}
use Rattle.deltas.proofs.Exact.{float_demand_3}
use Rattle.two_opt.proofs.Claimed.{lent_one}
use Rattle.neighbours.specs.Neighbours.{Neighbourhood, Reverse, Relocate, Reconnect}
use Rattle.within.specs.Within.{Ran, hard_ran}
use Rattle.within.proofs.Kept.{ran_hard}
use Rattle.refusals.specs.Refusal.{refusal, Fine, visits_fine}
use Rattle.refusals.proofs.NotRefused.{fine}
use Rattle.improvements.specs.Improve.{run_on, improved_as, answer_of, improve_answer, improve_visits, reported}
use Rattle.claims.specs.Demand3.{map_for, checks_for, Report, Claimed}
use Rattle.claims.proofs.Whole.{whole_map}
use Rattle.improvements.proofs.Improving.{refused_call, answered_call, list_back}

-- what an answer reports
reports : (d : Day) (van : Van) (ran : Ran) → reported (Ok (answer_of d van ran)) ≡ some (record { word = ran.word; moves = ran.moves })
unfolding answer_of improved_as
reports d van ran = go ran.word _
  where
    go : (w : Word) (distance : _) → reported (Ok (improved_as w ran.moves distance)) ≡ some (record { word = w; moves = ran.moves })
    go settled distance = refl
    go stopped distance = refl

module _ (which : Neighbourhood) (d : Day) (van : Van) (visits lengths : List ℕ) (list limit : ℕ) where
  -- whatever is claimed of a call: nothing of a refused one, and of any other something of the list that the run left
  told : (C : List ℕ → Option Report → Type 0) → ((back : List ℕ) → C back none)
      → (Fine d van visits lengths list → let ran = run_on which d van visits lengths list limit in
      C ran.list (some (record { word = ran.word; moves = ran.moves })))
      → C (list_of (improve_visits which d van visits lengths list limit) lengths list) (reported (improve_answer which d van visits lengths list limit))
  told C refused ended = go (refusal d van visits lengths list) refl
    where
      go : (n : ℕ) → n ≡ refusal d van visits lengths list
          → C (list_of (improve_visits which d van visits lengths list limit) lengths list) (reported (improve_answer which d van visits lengths list limit))
      go zero e =
          let f = fine d van visits lengths list (sym e) in
          let is = answered_call which d van visits lengths list limit e in
          rw (← is.0, ← is.1, list_back which d van visits lengths list limit f, reports d van (run_on which d van visits lengths list limit)) (ended f)
      go (suc n) e =
          let is = refused_call which d van visits lengths list limit n e in
          rw (← is.0, ← is.1) (refused _)

module _ (d : Day) (van : Van) (visits lengths : List ℕ) (list limit : ℕ) where
  abbrev lent : List ℕ
  lent = list_of visits lengths list

  pub two_opt_claimed : Claimed two_opt d van limit (list_of visits lengths list)
      (list_of (improve_visits Reverse d van visits lengths list limit) lengths list) (reported (improve_answer Reverse d van visits lengths list limit))
  unfolding run_on hard_ran run_of
  two_opt_claimed =
      told Reverse d van visits lengths list limit (λ back r. Claimed two_opt d van limit lent back r) (λ back. tt)
      (λ f whole. (
        (run_on Reverse d van visits lengths list limit).list,
        subst (λ (ran : Ran). Claim two_opt (roads_of (map_for d van)) (checks_for d van) limit lent ran.list ran.list ran.moves ran.word)
            (sym (ran_hard (columns_of d) (limits_of van) van.depot limit lent Reverse whole.hard))
            (float_demand_3 (map_for d van) (whole_map d van f.day.shaped.tables.of_distances f.depot whole) two_opt (checks_for d van) limit lent tt
            (lent_one d.l lent (visits_fine d van visits lengths list f))),
      ))

  pub or_opt_claimed : Claimed (or_opt n_minus_length) d van limit (list_of visits lengths list)
      (list_of (improve_visits Relocate d van visits lengths list limit) lengths list) (reported (improve_answer Relocate d van visits lengths list limit))
  unfolding run_on hard_ran run_of
  or_opt_claimed =
      told Relocate d van visits lengths list limit (λ back r. Claimed (or_opt n_minus_length) d van limit lent back r) (λ back. tt)
      (λ f whole. (
        (run_on Relocate d van visits lengths list limit).list,
        subst (λ (ran : Ran). Claim (or_opt n_minus_length) (roads_of (map_for d van)) (checks_for d van) limit lent ran.list ran.list ran.moves
            ran.word)
            (sym (ran_hard (columns_of d) (limits_of van) van.depot limit lent Relocate whole.hard))
            (float_demand_3 (map_for d van) (whole_map d van f.day.shaped.tables.of_distances f.depot whole) (or_opt n_minus_length) (checks_for d van)
            limit lent
            (λ n p. omega arith)
            (lent_one d.l lent (visits_fine d van visits lengths list f))),
      ))

  pub three_opt_claimed : Claimed three_opt d van limit (list_of visits lengths list)
      (list_of (improve_visits Reconnect d van visits lengths list limit) lengths list) (reported (improve_answer Reconnect d van visits lengths list limit))
  unfolding run_on hard_ran run_of
  three_opt_claimed =
      told Reconnect d van visits lengths list limit (λ back r. Claimed three_opt d van limit lent back r) (λ back. tt)
      (λ f whole. (
        (run_on Reconnect d van visits lengths list limit).list,
        subst (λ (ran : Ran). Claim three_opt (roads_of (map_for d van)) (checks_for d van) limit lent ran.list ran.list ran.moves ran.word)
            (sym (ran_hard (columns_of d) (limits_of van) van.depot limit lent Reconnect whole.hard))
            (float_demand_3 (map_for d van) (whole_map d van f.day.shaped.tables.of_distances f.depot whole) three_opt (checks_for d van) limit lent tt
            (lent_one d.l lent (visits_fine d van visits lengths list f))),
      ))
