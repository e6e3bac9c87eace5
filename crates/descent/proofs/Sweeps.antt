-- What is true of every search by places and candidates, whatever they are: what is taken is a candidate that is ok, and where nothing is taken
-- no candidate is ok. Assumes nothing.
use mathlib.Core.Path.{◌≡◌, refl, sym, ap, ◌∙◌}
use mathlib.Core.Logic.{◌⊎◌, inl, inr}
use mathlib.Core.Bool.{Bool, true, false, ◌&&◌}
use mathlib.Core.Option.{Option, none, some}
use mathlib.Core.List.{List, [], ◌∷◌}
use Rattle.descent.specs.Order.{◌∈◌, here, there}
use Rattle.descent.specs.Search.{least, first_least, After, goes_on, begins_again, Search, Judge, Sweep, ok, taken, first_move, next}
use Rattle.descent.proofs.Members.{clash, and_parts, in_cons}

-- ---- the first least

module _ {C : Type 0} (ok : C → Bool) (less : C → C → Bool) where
  least-ok : (best : C) (cs : List C) → ok best ≡ true → (least ok less best cs ∈ best ∷ cs) × (ok (least ok less best cs) ≡ true)
  unfolding least
  least-ok best [] h = (here, h)
  least-ok best (c ∷ cs) h = go (ok c && less c best) refl (least-ok c cs) (least-ok best cs h)
    where
      wider : (d : C) → d ∈ best ∷ cs → d ∈ best ∷ c ∷ cs
      wider d here = here
      wider d (there k) = there (there k)

      go : (b : Bool) → (ok c && less c best) ≡ b
          → (ok c ≡ true → (least ok less c cs ∈ c ∷ cs) × (ok (least ok less c cs) ≡ true))
          → (least ok less best cs ∈ best ∷ cs) × (ok (least ok less best cs) ≡ true)
          → let r : C = elim b [ true ↦ least ok less c cs | false ↦ least ok less best cs ] in (r ∈ best ∷ c ∷ cs) × (ok r ≡ true)
      go true e newer older = let r = newer (and_parts (ok c) (less c best) e).0 in (there r.0, r.1)
      go false e newer older = (wider (least ok less best cs) older.0, older.1)

  pub first_least-some : (cs : List C) (m : C) → first_least ok less cs ≡ some m → (m ∈ cs) × (ok m ≡ true)
  unfolding first_least
  first_least-some [] m e = absurd (clash e)
  first_least-some (c ∷ cs) m e = go (ok c) refl e (first_least-some cs m)
    where
      go : (b : Bool) → ok c ≡ b → elim b [ true ↦ some (least ok less c cs) | false ↦ first_least ok less cs ] ≡ some m
          → (first_least ok less cs ≡ some m → (m ∈ cs) × (ok m ≡ true)) → (m ∈ c ∷ cs) × (ok m ≡ true)
      go true h e rest = let q : least ok less c cs ≡ m = cc in rw q at (least-ok c cs h)
      go false h e rest = let r = rest e in (there r.0, r.1)

  pub first_least-none : (cs : List C) → first_least ok less cs ≡ none → (m : C) → m ∈ cs → ok m ≡ false
  unfolding first_least
  first_least-none (c ∷ cs) e m h = go (ok c) refl e (first_least-none cs) (in_cons c cs m h)
    where
      go : (b : Bool) → ok c ≡ b → ◌≡◌ {A = Option C} (elim b [ true ↦ some (least ok less c cs) | false ↦ first_least ok less cs ]) none
          → (first_least ok less cs ≡ none → (d : C) → d ∈ cs → ok d ≡ false) → (m ≡ c) ⊎ (m ∈ cs) → ok m ≡ false
      go true q e rest k = absurd (clash (sym e))
      go false q e rest (inl s) = ap ok s ∙ q
      go false q e rest (inr k) = rest e m k
  first_least-none [] e m h = elim h [ ]

-- ---- sweeps

module _ {State Place Move Value : Type 0} (search : Search State Place Move) (judge : Judge State Move Value) where
  -- where a step comes from: a place and a candidate there; and what is ahead then was ahead before
  pub record From (x : State) (ps : List Place) (s : Sweep State Place) : Type 0 where
    pub place : Place
    pub move : Move
    pub place_in : place ∈ ps
    pub move_in : move ∈ search.candidates x place
    pub move_ok : ok search judge x move ≡ true
    pub is : s.now ≡ search.made x move
    pub ahead_in : (p : Place) → p ∈ s.ahead → p ∈ ps

  pub first_move-some : (x : State) (ps : List Place) (s : Sweep State Place) → first_move search judge x ps ≡ some s → From x ps s
  unfolding first_move taken
  first_move-some x [] s e = absurd (clash e)
  first_move-some x (p ∷ ps) s e = go (taken search judge x p) refl e (first_move-some x ps s)
    where
      on : (a : After) (q : Place) → q ∈ elim a [ goes_on ↦ ps | begins_again ↦ [] ] → q ∈ p ∷ ps
      on goes_on q h = there h
      on begins_again q h = elim h [ ]

      go : (o : Option Move) → taken search judge x p ≡ o
          → elim o [
            | none ↦ first_move search judge x ps
            | some m ↦ some
                (record { now = search.made x m; ahead = elim search.after [ goes_on ↦ ps | begins_again ↦ [] ] })
          ] ≡ some s
          → (first_move search judge x ps ≡ some s → From x ps s) → From x (p ∷ ps) s
      go none a e rest =
          let f = rest e in
          record {
            place = f.place;
            move = f.move;
            place_in = there f.place_in;
            move_in = f.move_in;
            move_ok = f.move_ok;
            is = f.is;
            ahead_in = λ q
                h. there (f.ahead_in q h);
          }
      go (some m) a e rest =
          let c = first_least-some (ok search judge x) (λ k best. judge.less (judge.delta x k) (judge.delta x best)) (search.candidates x p) m a in
          let ah : elim search.after [ goes_on ↦ ps | begins_again ↦ [] ] ≡ s.ahead = cc in
          record { place = p; move = m; place_in = here; move_in = c.0; move_ok = c.1; is = cc; ahead_in = λ q h. on search.after q (rw ah h) }

  pub first_move-none : (x : State) (ps : List Place) → first_move search judge x ps ≡ none
      → (p : Place) (m : Move) → p ∈ ps → m ∈ search.candidates x p → ok search judge x m ≡ false
  unfolding first_move taken
  first_move-none x (q ∷ ps) e p m h k = go (taken search judge x q) refl e (first_move-none x ps) (in_cons q ps p h)
    where
      go : (o : Option Move) → taken search judge x q ≡ o
          → ◌≡◌ {A = Option (Sweep State Place)} (elim o [
            | none ↦ first_move search judge x ps
            | some n ↦ some
                (record { now = search.made x n; ahead = elim search.after [ goes_on ↦ ps | begins_again ↦ [] ] })
          ]) none
          → (first_move search judge x ps ≡ none → (r : Place) (n : Move) → r ∈ ps → n ∈ search.candidates x r → ok search judge x n ≡ false)
          → (p ≡ q) ⊎ (p ∈ ps) → ok search judge x m ≡ false
      go none a e rest (inl s) = first_least-none (ok search judge x) (λ n best. judge.less (judge.delta x n) (judge.delta x best))
          (search.candidates x q) a m (rw s at k)
      go none a e rest (inr h) = rest e p m h k
      go (some n) a e rest h = absurd (clash (sym e))
  first_move-none x [] e p m h k = elim h [ ]

  -- a step is a move at one of the places, where those ahead are among them; where there is no step no candidate at any place is ok
  pub next-some : (s t : Sweep State Place) → ((p : Place) → p ∈ s.ahead → p ∈ search.places s.now) → next search judge s ≡ some t
      → From s.now (search.places s.now) t
  unfolding next
  next-some s t among e = go (first_move search judge s.now s.ahead) refl e
    where
      go : (o : Option (Sweep State Place)) → first_move search judge s.now s.ahead ≡ o
          → elim o [ none ↦ first_move search judge s.now (search.places s.now) | some u ↦ some u ] ≡ some t → From s.now (search.places s.now) t
      go none a e = first_move-some s.now (search.places s.now) t e
      go (some u) a e =
          let f = first_move-some s.now s.ahead t (a ∙ e) in
          record {
            place = f.place;
            move = f.move;
            place_in = among f.place
                f.place_in;
            move_in = f.move_in;
            move_ok = f.move_ok;
            is = f.is;
            ahead_in = λ p h. among p (f.ahead_in p h);
          }

  pub next-none : (s : Sweep State Place) → next search judge s ≡ none
      → (p : Place) (m : Move) → p ∈ search.places s.now → m ∈ search.candidates s.now p → ok search judge s.now m ≡ false
  unfolding next
  next-none s e = go (first_move search judge s.now s.ahead) e
    where
      go : (o : Option (Sweep State Place)) → ◌≡◌ {A = Option (Sweep State Place)}
          (elim o [ none ↦ first_move search judge s.now (search.places s.now) | some u ↦ some u ]) none
          → (p : Place) (m : Move) → p ∈ search.places s.now → m ∈ search.candidates s.now p → ok search judge s.now m ≡ false
      go none e = first_move-none s.now (search.places s.now) e
      go (some u) e = absurd (clash (sym e))
