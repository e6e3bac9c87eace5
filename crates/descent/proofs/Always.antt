-- Whatever the numbers, a run makes permitted moves only, so that it keeps the offices and the capacities: each step of a run takes a candidate that
-- passes, and those are the permitted moves. Nothing is asked of how candidates are judged.
use mathlib.Core.Path.{◌≡◌, refl, ◌∙◌}
use mathlib.Core.Option.{some}
use mathlib.Core.List.{[]}
use Prim.Native.Nat.{ℕ}
use lib.Dec.{eqb}
use Rattle.edits.specs.Total.{bit, count}
use Rattle.descent.specs.Order.{◌∈◌}
use Rattle.descent.specs.Permitted.{Checks, Engine, State, lists, Permitted}
use Rattle.descent.specs.Search.{Judge, Sweep, ok, next}
use Rattle.descent.specs.Engines.{Place, Move, engine_search, run_of}
use Rattle.descent.specs.Claim.{handed}
use Rattle.descent.specs.Always.{Always}
use Rattle.descent.proofs.Members.{and_parts, not_in}
use Rattle.descent.proofs.Runs.{ran, chain_map, chain_keeps}
use Rattle.descent.proofs.Kept.{Kept, kept_same, kept_on, permitted_keeps}
use Rattle.descent.proofs.Sweeps.{next-some}
use Rattle.descent.proofs.Claims.{Tried, handed-total}
use Rattle.descent.proofs.Demand3.{Proper, faithful}

module _ {Value : Type 0} (e : Engine) (checks : Checks) (judge : Judge (State e) (Move e) Value) (proper : Proper e) where
  Among : Sweep (State e) (Place e) → Type 0
  Among s = (p : Place e) → p ∈ s.ahead → p ∈ (engine_search e checks).places s.now

  step : (a b : Sweep (State e) (Place e)) → Among a → next (engine_search e checks) judge a ≡ some b → Among b × Permitted e checks a.now b.now
  unfolding ok Among
  step a b among q =
      let x = a.now in
      let f = next-some (engine_search e checks) judge a b among q in
      let m = f.move in
      let tried : Tried e checks x m = record { place = f.place; place_in = f.place_in; move_in = f.move_in } in
      let both = and_parts (judge.counts (judge.delta x m)) ((engine_search e checks).passes x m) f.move_ok in
      let trusted = faithful e checks proper in
      let permitted = trusted.permits x m tried both.1 in
      ((λ p h. rw (f.is, trusted.places_stay x ((engine_search e checks).made x m) permitted) (f.ahead_in p h)), rw f.is permitted)

  -- the lists that moves lead to are made of the lists lent
  pub kept_by : (limit : ℕ) (lent : State e) → Kept checks (lists e lent) (lists e (run_of e checks judge limit lent).last.now)
  unfolding run_of Among
  kept_by limit lent =
      let start : Sweep (State e) (Place e) = record { now = lent; ahead = [] } in
      let told = ran (next (engine_search e checks) judge) limit start in
      let seen = chain_map (Permitted e checks) (λ s. s.now) Among step (λ p h. not_in h) told.chain in
      chain_keeps (λ x y. Kept checks (lists e x) (lists e y)) (λ x. kept_same checks (lists e x))
      (λ x y z r k. kept_on checks (lists e x) (lists e y) (lists e z) (permitted_keeps e checks x y r) k) seen.1

  pub always : (limit : ℕ) (lent : State e) → let r = run_of e checks judge limit lent in
      Always e checks limit lent r.last.now (handed e r.last.now) r.moves r.word
  unfolding run_of Among
  always limit lent =
      let start : Sweep (State e) (Place e) = record { now = lent; ahead = [] } in
      let told = ran (next (engine_search e checks) judge) limit start in
      let seen = chain_map (Permitted e checks) (λ s. s.now) Among step (λ p h. not_in h) told.chain in
      let kept = kept_by limit lent in
      let end = (run_of e checks judge limit lent).last.now in
      record {
        chain = seen.1;
        dropping = refl;
        offices = λ x. handed-total (count x) refl e end ∙ kept.sums (λ v. bit (eqb x v));
        loads = kept.loads;
        stops = λ w. (told.stops w).0;
      }
