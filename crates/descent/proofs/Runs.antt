-- What is true of every run that goes from state to state under a limit. Assumes nothing.
use mathlib.Core.Path.{◌≡◌, refl, sym, ap}
use mathlib.Core.Option.{Option, none, some}
use Prim.Native.Nat.{ℕ, zero, suc, ◌+◌, ◌≤◌, ◌<◌}
use native.Mathlib.Omega.{arith}
use Rattle.descent.specs.Search.{Word, settled, stopped, Outcome, run}
use Rattle.descent.specs.Claim.{Steps, none_made, one_more}

abbrev counted : {S : Type 0} → Outcome S → Outcome S
counted r = record { word = r.word; moves = suc r.moves; last = r.last }

clash : settled ≡ stopped → ⊥
clash e = let z : ◌≡◌ {A = ℕ} 0 1 = cc in omega arith

module _ {S : Type 0} (next : S → Option S) where
  -- what a run is, whatever `next` does
  pub record Ran (limit : ℕ) (s : S) (r : Outcome S) : Type 0 where
    pub chain : Steps (λ a b. next a ≡ some b) r.moves s r.last
    pub settles : r.word ≡ settled → next r.last ≡ none
    pub stops : r.word ≡ stopped → (r.moves ≡ limit) × ((t : S) × (next r.last ≡ some t))

  pub ran : (limit : ℕ) (s : S) → Ran limit s (run next limit s)
  unfolding run
  ran zero s = go (next s) refl
    where
      go : (o : Option S) → next s ≡ o → Ran zero s (elim o [
        | none ↦ record { word = settled; moves = 0; last = s }
        | some t ↦ record
            { word = stopped; moves = 0; last = s }
      ])
      go none e = record { chain = none_made; settles = λ w. e; stops = λ w. absurd (clash w) }
      go (some t) e = record { chain = none_made; settles = λ w. absurd (clash (sym w)); stops = λ w. (refl, (t, e)) }
  ran (suc limit) s = go (next s) refl (ran limit)
    where
      go : (o : Option S) → next s ≡ o → ((t : S) → Ran limit t (run next limit t))
          → Ran (suc limit) s (elim o [ none ↦ record { word = settled; moves = 0; last = s } | some t ↦ counted (run next limit t) ])
      go none e rest = record { chain = none_made; settles = λ w. e; stops = λ w. absurd (clash w) }
      go (some t) e rest = record {
        chain = one_more e (rest t).chain;
        settles = (rest t).settles;
        stops = λ w. (ap suc ((rest t).stops w).0, ((rest t).stops w).1);
      }

-- a chain of steps seen through `view`, while `Good` is kept
pub chain_map : {S T : Type 0} {R : S → S → Type 0} (Q : T → T → Type 0) (view : S → T) (Good : S → Type 0)
    → ((a b : S) → Good a → R a b → Good b × Q (view a) (view b))
    → {n : ℕ} {s u : S} → Good s → Steps R n s u → Good u × Steps Q n (view s) (view u)
chain_map Q view Good each good none_made = (good, none_made)
chain_map Q view Good each good (one_more {s = s} {t = t} r rest) =
    let one = each s t good r in
    let more = chain_map Q view Good each one.0 rest in
    (more.0, one_more one.1 more.1)

-- steps that each lower a potential lower it by one a step or more
pub chain_lowers : {S : Type 0} {R : S → S → Type 0} (cost : S → ℕ) → ((a b : S) → R a b → cost b < cost a)
    → {n : ℕ} {s u : S} → Steps R n s u → cost u + n ≤ cost s
chain_lowers cost each none_made = omega arith
chain_lowers cost each (one_more {s = s} {t = t} r rest) =
    let ih = chain_lowers cost each rest in
    omega (arith, each s t r)

-- what is true of a state and itself, and goes on over a step, is true of a chain's ends
pub chain_keeps : {S : Type 0} {R : S → S → Type 0} (K : S → S → Type 0) → ((a : S) → K a a) → ((a b c : S) → R a b → K b c → K a c)
    → {n : ℕ} {s u : S} → Steps R n s u → K s u
chain_keeps K same each (none_made {s = s}) = same s
chain_keeps K same each (one_more {s = s} {t = t} {u = u} r rest) = each s t u r (chain_keeps K same each rest)

-- DESCENT. `next` gives the next state of a search, or none. A state is seen as a `T`, its lists; `Good` is what the search keeps of its other parts.
-- Each step is a `Step` from what is seen of the one to what is seen of the other, and each `Step` lowers the cost.
module _ {S T : Type 0} (next : S → Option S) (view : S → T) (Good : S → Type 0) (Step : T → T → Type 0) (cost : T → ℕ)
    (sound : (a b : S) → Good a → next a ≡ some b → Good b × Step (view a) (view b)) (lowers : (a b : T) → Step a b → cost b < cost a) where
  pub record Descends (limit : ℕ) (s : S) (r : Outcome S) : Type 0 where
    pub chain : Steps Step r.moves (view s) (view r.last)
    pub good : Good r.last
    pub lower : cost (view r.last) + r.moves ≤ cost (view s)
    pub settles : r.word ≡ settled → next r.last ≡ none
    pub stops : r.word ≡ stopped → r.moves ≡ limit
    pub again : r.word ≡ stopped → (t : S) × Step (view r.last) (view t)
    pub enough : cost (view s) ≤ limit → r.word ≡ settled

  pub descends : (limit : ℕ) (s : S) → Good s → Descends limit s (run next limit s)
  descends limit s good =
      let r = run next limit s in
      let told = ran next limit s in
      let seen = chain_map Step view Good sound good told.chain in
      let low = chain_lowers cost lowers seen.1 in
      record {
        chain = seen.1;
        good = seen.0;
        lower = low;
        settles = told.settles;
        stops = λ w. (told.stops w).0;
        again = λ w. let at = (told.stops w).1 in (at.0, (sound r.last at.0 seen.0 at.1).1);
        enough = λ h. by_word r.word refl seen.0 low told h;
      }
    where
      by_word : (w : Word) → (run next limit s).word ≡ w → Good (run next limit s).last
          → cost (view (run next limit s).last) + (run next limit s).moves ≤ cost (view s) → Ran next limit s (run next limit s)
          → cost (view s) ≤ limit → w ≡ settled
      by_word settled e good low told h = refl
      by_word stopped e good low told h =
          let at = told.stops e in
          let step = sound (run next limit s).last at.1.0 good at.1.1 in
          absurd (omega (arith, lowers (view (run next limit s).last) (view at.1.0) step.1, at.0))
