-- Demand 3 of any engine that tries exactly the permitted moves, and judges them exactly. Assumes nothing.
use mathlib.Core.Path.{◌≡◌, refl, sym, ◌∙◌}
use mathlib.Core.Bool.{true}
use mathlib.Core.Option.{none, some}
use mathlib.Core.List.{List, []}
use Prim.Native.Nat.{ℕ, ◌≤◌}
use native.Mathlib.Omega.{arith}
use borrow.Author.Tests.{ltb-true, ltb-false}
use lib.Dec.{ltb}
use Rattle.edits.specs.Total.{total, bit, count}
use Rattle.descent.specs.Order.{◌∈◌}
use Rattle.descent.specs.Sum.{Roads, price, cost}
use Rattle.descent.specs.Permitted.{Checks, tails_exchanged, relocated, Engine, two_opt, three_opt, or_opt, tail_exchange, relocate, State, lists}
use Rattle.descent.specs.Permitted.{Permitted}
use Rattle.descent.specs.Search.{Judge, Sweep, ok, next}
use Rattle.descent.specs.Engines.{Place, Move, engine_search, run_of}
use Rattle.descent.specs.Claim.{Lowering, handed, Claim}
use Rattle.descent.proofs.Members.{and_parts, and_first, not_in}
use Rattle.descent.proofs.Runs.{descends}
use Rattle.descent.proofs.Kept.{Kept, kept_same, kept_on, permitted_keeps}
use Rattle.descent.proofs.Filled.{dropped-total, dropped_changed}
use Rattle.descent.proofs.Sweeps.{next-some, next-none}
use lib.Dec.{eqb}

-- ---- the dropping

pub handed-total : (f : List ℕ → ℕ) → f [] ≡ 0 → (e : Engine) (x : State e) → total f (lists e (handed e x)) ≡ total f (lists e x)
handed-total f z two_opt x = refl
handed-total f z three_opt x = refl
handed-total f z (or_opt last) x = refl
handed-total f z tail_exchange x = dropped-total f z x
handed-total f z (relocate tested) x = dropped-total f z x

-- no permitted move lowers the sum
abbrev pub Best : (e : Engine) → Roads → Checks → State e → Type 0
Best e roads checks x = (y : State e) → Permitted e checks x y → cost roads (lists e x) ≤ cost roads (lists e y)

handed_best : (e : Engine) (roads : Roads) (checks : Checks) (x : State e) → Best e roads checks x → Best e roads checks (handed e x)
handed_best two_opt roads checks x h y m = h y m
handed_best three_opt roads checks x h y m = h y m
handed_best (or_opt last) roads checks x h y m = h y m
handed_best tail_exchange roads checks x h y (tails_exchanged A B C D hA hC L p q) =
    let on = dropped_changed _ _ _ _ x y L in
    let low = h on.0 (tails_exchanged A B C D hA hC on.1 p q) in
    omega (arith, on.2 (price roads) refl, dropped-total (price roads) refl x)
handed_best (relocate tested) roads checks x h y (relocated v A B C D L p q) =
    let on = dropped_changed _ _ _ _ x y L in
    let low = h on.0 (relocated v A B C D on.1 p q) in
    omega (arith, on.2 (price roads) refl, dropped-total (price roads) refl x)

-- ---- what is asked of an engine, and of how its candidates are judged

-- a candidate at a place
pub record Tried (e : Engine) (checks : Checks) (x : State e) (m : Move e) : Type 0 where
  pub place : Place e
  pub place_in : place ∈ (engine_search e checks).places x
  pub move_in : m ∈ (engine_search e checks).candidates x place

-- the candidate that makes a permitted move
pub record Covered (e : Engine) (checks : Checks) (x y : State e) : Type 0 where
  pub move : Move e
  pub tried : Tried e checks x move
  pub passes : (engine_search e checks).passes x move ≡ true
  pub is : (engine_search e checks).made x move ≡ y

-- FAITHFUL: the candidates that pass are the permitted moves, and the places stay the same
pub record Faithful (e : Engine) (checks : Checks) : Type 0 where
  pub permits : (x : State e) (m : Move e) → Tried e checks x m → (engine_search e checks).passes x m ≡ true → Permitted e checks x ((engine_search e checks).made x m)
  pub covers : (x y : State e) → Permitted e checks x y → Covered e checks x y
  pub places_stay : (x y : State e) → Permitted e checks x y → (engine_search e checks).places y ≡ (engine_search e checks).places x

-- EXACT: on whatever moves can make of the lists lent, a candidate counts exactly where the sum falls
abbrev pub Exact : {Value : Type 0} (e : Engine) → Roads → Checks → Judge (State e) (Move e) Value → State e → Type 0
Exact e roads checks judge lent = (x : State e) (m : Move e) → Kept checks (lists e lent) (lists e x) → Tried e checks x m
    → judge.counts (judge.delta x m) ≡ ltb (cost roads (lists e ((engine_search e checks).made x m))) (cost roads (lists e x))

-- ---- the claim

module _ {Value : Type 0} (e : Engine) (roads : Roads) (checks : Checks) (judge : Judge (State e) (Move e) Value) (lent : State e)
    (faithful : Faithful e checks) (exact : Exact e roads checks judge lent) where
  -- what a run keeps: the lists are made of the lists lent, and what is ahead is among the places
  record Good (s : Sweep (State e) (Place e)) : Type 0 where
    pub kept : Kept checks (lists e lent) (lists e s.now)
    pub among : (p : Place e) → p ∈ s.ahead → p ∈ (engine_search e checks).places s.now

  sound : (a b : Sweep (State e) (Place e)) → Good a → next (engine_search e checks) judge a ≡ some b → Good b × Lowering e roads checks a.now b.now
  unfolding ok
  sound a b good q =
      let x = a.now in
      let f = next-some (engine_search e checks) judge a b good.among q in
      let m = f.move in
      let y = (engine_search e checks).made x m in
      let tried : Tried e checks x m = record { place = f.place; place_in = f.place_in; move_in = f.move_in } in
      let both = and_parts (judge.counts (judge.delta x m)) ((engine_search e checks).passes x m) f.move_ok in
      let permitted = faithful.permits x m tried both.1 in
      let low = ltb-true (cost roads (lists e y)) (cost roads (lists e x)) (sym (exact x m good.kept tried) ∙ both.0) in
      let kept = kept_on checks (lists e lent) (lists e x) (lists e y) good.kept (permitted_keeps e checks x y permitted) in (
        record { kept = rw f.is kept; among = λ p h. rw (f.is, faithful.places_stay x y permitted) (f.ahead_in p h) },
        record { permitted = rw f.is permitted; lower = rw f.is low },
      )

  best : (s : Sweep (State e) (Place e)) → Good s → next (engine_search e checks) judge s ≡ none → Best e roads checks s.now
  unfolding ok
  best s good q y permitted =
      let x = s.now in
      let c = faithful.covers x y permitted in
      let m = c.move in
      let not-ok = next-none (engine_search e checks) judge s q c.tried.place m c.tried.place_in c.tried.move_in in
      let no-gain = and_first (judge.counts (judge.delta x m)) ((engine_search e checks).passes x m) not-ok c.passes in
      rw c.is at (ltb-false (cost roads (lists e ((engine_search e checks).made x m))) (cost roads (lists e x))
      (sym (exact x m good.kept c.tried) ∙ no-gain))

  pub claim : (limit : ℕ) → let r = run_of e checks judge limit lent in
      Claim e roads checks limit lent r.last.now (handed e r.last.now) r.moves r.word
  unfolding run_of
  claim limit =
      let start : Sweep (State e) (Place e) = record { now = lent; ahead = [] } in
      let good : Good start = record { kept = kept_same checks (lists e lent); among = λ p h. none-there p h } in
      let r = run_of e checks judge limit lent in
      let end = r.last.now in
      let told = descends (next (engine_search e checks) judge) (λ s. s.now) Good (Lowering e roads checks) (λ x. cost roads (lists e x)) sound
      (λ a b m. m.lower) limit start good in
      let kept = told.good.kept in
      record {
        chain = told.chain;
        dropping = refl;
        sum = omega (arith, told.lower, handed-total (price roads) refl e end);
        offices = λ x. handed-total (count x) refl e end ∙ kept.sums (λ v. bit (eqb x v));
        loads = kept.loads;
        settles = λ w. handed_best e roads checks end (best r.last told.good (told.settles w));
        stops = told.stops;
        left = λ w. let at = told.again w in (at.0.now, at.1);
        enough = told.enough;
      }
    where
      none-there : (p : Place e) → p ∈ [] → p ∈ (engine_search e checks).places lent
      none-there p h = not_in h
