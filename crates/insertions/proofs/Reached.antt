-- A scan finds the least and the first place that reaches it; and what was known of it stays right where one place vanishes or becomes two: a cost that
-- stays is not below the figure, as before, and the new leg is, or is as low and stands earlier, or it isn't. Any f64 will do: of one that is not a number
-- both 'below' and 'as low' are false. Assumes nothing.
use mathlib.Core.Path.{◌≡◌, refl, sym, ap, ◌∙◌}
use mathlib.Core.Bool.{Bool, true, false, cond, ◌||◌, false≢true}
use mathlib.Core.Logic.{◌≢◌, ◌⊎◌, inl, inr}
use Prim.Native.Nat.{ℕ, zero, suc, ◌+◌, ◌-◌, ◌<◌}
use native.Mathlib.Omega.{arith}
use native.Mathlib.Decide.{ℕ_discrete, dec_lt}
use native.Mathlib.Numerals.{add-one}
use borrow.Author.Tests.{ltb-true, ltb-false, eqb-false}
use lib.Dec.{T, ltb, eqb}
use lib.Ieee.{Float, inf, lt, le}
use lib.Ieee.Scale.{finite}
use Rattle.numbers.proofs.Total as Total
use Rattle.descent.proofs.Members.{true-T}
use Rattle.insertions.specs.Cache.{lesser, least_below, LeastAt, forgotten, wins, first_of, vanished, moved_down, moved_up, least_left, least_came}
use Rattle.insertions.specs.declared.Least.{Least}

-- ---- order, where one side may be no number

-- what isn't so
by_contra : (b : Bool) → (T b → ⊥) → b ≡ false
by_contra true h = absurd (h tt)
by_contra false h = refl

not_both : (b : Bool) → T b → b ≡ false → ⊥
not_both true t e = false≢true (sym e)
not_both false t e = t

-- what isn't below v isn't below anything that is at most v
not_below_le : (x v w : Float) → lt x v ≡ false → T (le w v) → lt x w ≡ false
not_below_le x v w e h = by_contra (lt x w) (λ t. not_both (lt x v) (Total.lt-le_trans x w v t h) e)

not_low_le : (x v w : Float) → le x v ≡ false → T (le w v) → le x w ≡ false
not_low_le x v w e h = by_contra (le x w) (λ t. not_both (le x v) (Total.le_trans x w v t h) e)

-- and isn't as low as anything that is below v
not_low_lt : (x v w : Float) → lt x v ≡ false → T (lt w v) → le x w ≡ false
not_low_lt x v w e h = by_contra (le x w) (λ t. not_both (lt x v) (Total.le_lt_trans x w v t h) e)

not_low_below : (x v : Float) → le x v ≡ false → lt x v ≡ false
not_low_below x v e = by_contra (lt x v) (λ t. not_both (le x v) (Total.lt→le x v t) e)

itself : (x : Float) → lt x x ≡ false
itself x = by_contra (lt x x) (Total.lt_irrefl x)

-- ---- a scan

module _ (cost : ℕ → Float) where
  -- after m places: none is below the figure, and once it is finite it is reached
  record Seen (m : ℕ) (l : Least) : Type 0 where
    lowest : (k : ℕ) → k < m → lt (cost k) l.figure ≡ false
    reached : T (finite l.figure) → LeastAt cost m l.figure l.place

  more : {P : ℕ → Type 0} (m : ℕ) → ((k : ℕ) → k < m → P k) → P m → (k : ℕ) → k < suc m → P k
  more {P} m f z k h = at (ℕ_discrete k m)
    where
      at : Dec (k ≡ m) → P k
      at (yes e) = rw e z
      at (no e) = f k (omega arith)

  seen_more : (m : ℕ) (l : Least) → Seen m l → Seen (suc m) (lesser l (cost m) m)
  unfolding lesser
  seen_more m l s = go (lt (cost m) l.figure) refl
    where
      go : (b : Bool) → lt (cost m) l.figure ≡ b → Seen (suc m) (cond b (record { figure = cost m; place = m }) l)
      go true e =
          let below = true-T (lt (cost m) l.figure) e in
          let low : (k : ℕ) → k < suc m → lt (cost k) (cost m) ≡ false
          = more m (λ k h. not_below_le (cost k) l.figure (cost m) (s.lowest k h) (Total.lt→le (cost m) l.figure below)) (itself (cost m)) in
          record {
            lowest = low;
            reached = λ f. record {
              there = omega arith;
              is = refl;
              least = low;
              first = λ k h. not_low_lt (cost k) l.figure (cost m) (s.lowest k h) below;
            };
          }
      go false e =
          let low : (k : ℕ) → k < suc m → lt (cost k) l.figure ≡ false = more m s.lowest e in
          record {
            lowest = low;
            reached = λ f.
                let at = s.reached f in
                let t = at.there in
                record { there = omega arith; is = at.is; least = low; first = at.first };
          }

  seen : (m : ℕ) → Seen m (least_below cost m)
  unfolding least_below
  seen zero = record { lowest = λ k h. absurd (omega arith); reached = λ f. absurd f }
  seen (suc m) = seen_more m (least_below cost m) (seen m)

  pub scan_reaches : (m : ℕ) → T (finite (least_below cost m).figure) → LeastAt cost m (least_below cost m).figure (least_below cost m).place
  scan_reaches m f = (seen m).reached f

-- as a loop scans: none yet, one place more, and all
pub least_start : (cost : ℕ → Float) (x : Float) → x ≡ inf false → record { figure = x; place = 0 } ≡ least_below cost 0
unfolding least_below
least_start cost x e = rw e

pub least_turn : (cost : ℕ → Float) (k : ℕ) (l r : Least) (x : Float) → l ≡ least_below cost k → x ≡ cost k → r ≡ lesser l x k → r ≡ least_below cost (k + 1)
unfolding least_below
least_turn cost k l r x e f g = g ∙ rw (e, f, add-one k)

pub least_end : (cost : ℕ → Float) (k n : ℕ) (l : Least) → l ≡ least_below cost k → k ≡ n → l ≡ least_below cost n
least_end cost k n l e h = rw (← h) e

-- ---- one place more

-- the least of the costs at some places
record Among (S : ℕ → Type 0) (cost : ℕ → Float) (l : Least) : Type 0 where
  there : S l.place
  is : l.figure ≡ cost l.place
  least : (k : ℕ) → S k → lt (cost k) l.figure ≡ false
  first : (k : ℕ) → S k → k < l.place → le (cost k) l.figure ≡ false

module _ (S : ℕ → Type 0) (cost : ℕ → Float) (l : Least) (at : Among S cost l) (q : ℕ) where
  abbrev new : Least
  new = record { figure = cost q; place = q }

  abbrev More : ℕ → Type 0
  More k = S k ⊎ (k ≡ q)

  won : (u : Bool) → ltb q l.place ≡ u → cond u (le (cost q) l.figure) (lt (cost q) l.figure) ≡ true → Among More cost new
  won u g e = record { there = inr refl; is = refl; least = low; first = early u g e }
    where
      at_most : (u : Bool) → cond u (le (cost q) l.figure) (lt (cost q) l.figure) ≡ true → T (le (cost q) l.figure)
      at_most true e = true-T (le (cost q) l.figure) e
      at_most false e = Total.lt→le (cost q) l.figure (true-T (lt (cost q) l.figure) e)

      low : (k : ℕ) → More k → lt (cost k) (cost q) ≡ false
      low k (inl s) = not_below_le (cost k) l.figure (cost q) (at.least k s) (at_most u e)
      low k (inr same) = rw same (itself (cost q))

      early : (u : Bool) → ltb q l.place ≡ u → cond u (le (cost q) l.figure) (lt (cost q) l.figure) ≡ true
          → (k : ℕ) → More k → k < q → le (cost k) (cost q) ≡ false
      early true g e k (inl s) h =
          let b = ltb-true q l.place g in
          not_low_le (cost k) l.figure (cost q) (at.first k s (omega arith)) (true-T (le (cost q) l.figure) e)
      early false g e k (inl s) h = not_low_lt (cost k) l.figure (cost q) (at.least k s) (true-T (lt (cost q) l.figure) e)
      early u g e k (inr same) h = absurd (omega arith)

  lost : (u : Bool) → ltb q l.place ≡ u → cond u (le (cost q) l.figure) (lt (cost q) l.figure) ≡ false → Among More cost l
  lost u g e = record { there = inl at.there; is = at.is; least = low u e; first = early u g e }
    where
      low : (u : Bool) → cond u (le (cost q) l.figure) (lt (cost q) l.figure) ≡ false → (k : ℕ) → More k → lt (cost k) l.figure ≡ false
      low u e k (inl s) = at.least k s
      low true e k (inr same) = rw same (not_low_below (cost q) l.figure e)
      low false e k (inr same) = rw same e

      early : (u : Bool) → ltb q l.place ≡ u → cond u (le (cost q) l.figure) (lt (cost q) l.figure) ≡ false
          → (k : ℕ) → More k → k < l.place → le (cost k) l.figure ≡ false
      early u g e k (inl s) h = at.first k s h
      early true g e k (inr same) h = rw same e
      early false g e k (inr same) h = let b = ltb-false q l.place g in absurd (omega arith)

  one_more : Among More cost (first_of l new)
  unfolding first_of wins
  one_more = go (ltb q l.place) refl (cond (ltb q l.place) (le (cost q) l.figure) (lt (cost q) l.figure)) refl
    where
      go : (u : Bool) → ltb q l.place ≡ u → (w : Bool) → cond (ltb q l.place) (le (cost q) l.figure) (lt (cost q) l.figure) ≡ w
          → Among More cost (cond w new l)
      go u g true e = won (ltb q l.place) refl e
      go u g false e = lost (ltb q l.place) refl e

-- where these are all places below m
all_below : (S : ℕ → Type 0) (cost : ℕ → Float) (m : ℕ) (l : Least) → Among S cost l → ((k : ℕ) → S k → k < m) → ((k : ℕ) → k < m → S k)
    → LeastAt cost m l.figure l.place
all_below S cost m l at inside every = record {
  there = inside l.place at.there;
  is = at.is;
  least = λ k h. at.least k (every k h);
  first = λ k h. at.first k (every k (let t = inside l.place at.there in omega arith)) h;
}

-- ---- one place goes

-- the costs of m + 1 places become those of m: the places `position` and the next vanish, and one at `position` appears
pub record Joined (old new : ℕ → Float) (m position : ℕ) : Type 0 where
  pub inside : position < m
  pub low : (k : ℕ) → k < position → new k ≡ old k
  pub high : (k : ℕ) → position < k → k < m → new k ≡ old (suc k)

module _ (old new : ℕ → Float) (m pos : ℕ) (j : Joined old new m pos) where
  i : pos < m
  i = j.inside

  abbrev Stayed : ℕ → Type 0
  Stayed k = (k < m) × (k ≢ pos)

  -- a place that stayed was one before
  was : (P : Float → Type 0) (k : ℕ) → Stayed k → (k < pos → P (old k)) → (pos < k → P (old (suc k))) → P (new k)
  was P k s below above = go (dec_lt k pos)
    where
      go : Dec (k < pos) → P (new k)
      go (yes h) = rw (j.low k h) (below h)
      go (no h) = let d = s.1 in let b : pos < k = omega arith in rw (j.high k b s.0) (above b)

  stayed : (v : Float) (p : ℕ) → LeastAt old (suc m) v p → p ≢ pos → p ≢ suc pos → Among Stayed new (record { figure = v; place = moved_down p pos })
  unfolding moved_down
  stayed v p at a b = go (ltb pos p) refl
    where
      t : p < suc m
      t = at.there

      low : (k : ℕ) → Stayed k → lt (new k) v ≡ false
      low k s = let c = s.0 in was (λ x. lt x v ≡ false) k s (λ g. at.least k (omega arith)) (λ g. at.least (suc k) (omega arith))

      go : (u : Bool) → ltb pos p ≡ u → Among Stayed new (record { figure = v; place = cond u (p - 1) p })
      go true e =
          let h = ltb-true pos p e in
          let s : suc (p - 1) ≡ p = omega arith in
          record {
            there = (omega (arith, t), omega arith);
            is = at.is ∙ sym (j.high (p - 1) (omega arith) (omega (arith, t)) ∙ ap old s);
            least = low;
            first = λ k s l. was (λ x. le x v ≡ false) k s (λ h. at.first k (omega arith)) (λ h. at.first (suc k) (omega arith));
          }
      go false e =
          let h = ltb-false pos p e in
          record {
            there = (omega (arith, t, i), a);
            is = at.is ∙ sym (j.low p (omega arith));
            least = low;
            first = λ k s l. let b : k < p = l in was (λ x. le x v ≡ false) k s (λ g. at.first k l) (λ g. absurd (omega arith));
          }

  apart : (p : ℕ) → vanished p pos ≡ false → (p ≢ pos) × (p ≢ suc pos)
  unfolding vanished
  apart p = go (eqb p pos) refl (eqb p (pos + 1)) refl
    where
      go : (s : Bool) → eqb p pos ≡ s → (t : Bool) → eqb p (pos + 1) ≡ t → (s || t) ≡ false → (p ≢ pos) × (p ≢ suc pos)
      go true e t g h = absurd (false≢true (sym h))
      go false e true g h = absurd (false≢true (sym h))
      go false e false g h = (eqb-false p pos e, λ z. eqb-false p (pos + 1) g (omega arith))

  joins : (v : Float) (p : ℕ) → LeastAt old (suc m) v p → p ≢ pos → p ≢ suc pos
      → let l = first_of (record { figure = v; place = moved_down p pos }) (record { figure = new pos; place = pos }) in LeastAt new m l.figure l.place
  joins v p at a b = all_below _ new m _ (one_more Stayed new _ (stayed v p at a b) pos) inside every
    where
      inside : (k : ℕ) → Stayed k ⊎ (k ≡ pos) → k < m
      inside k (inl s) = s.0
      inside k (inr e) = omega (arith, i)

      every : (k : ℕ) → k < m → Stayed k ⊎ (k ≡ pos)
      every k h = go (ℕ_discrete k pos)
        where
          go : Dec (k ≡ pos) → Stayed k ⊎ (k ≡ pos)
          go (yes e) = inr e
          go (no e) = inl (h, e)

  -- what is left is right
  pub left_right : (known : Least) → (T (finite known.figure) → LeastAt old (suc m) known.figure known.place)
      → let l = least_left known pos (new pos) in T (finite l.figure) → LeastAt new m l.figure l.place
  unfolding least_left
  left_right known h = go (finite known.figure) refl (vanished known.place pos) refl
    where
      go : (s : Bool) → finite known.figure ≡ s → (t : Bool) → vanished known.place pos ≡ t
          → let l : Least = cond s (cond t (forgotten known) (first_of (record { figure = known.figure; place = moved_down known.place pos })
          (record { figure = new pos; place = pos }))) known in
          T (finite l.figure) → LeastAt new m l.figure l.place
      go false e t g f = absurd (not_both (finite known.figure) f e)
      go true e true g f = absurd f
      go true e false g f =
          let d = apart known.place g in
          joins known.figure known.place (h (true-T (finite known.figure) e)) d.0 d.1

-- ---- one place becomes two

-- the costs of m places become those of m + 1: the place `position` vanishes, and two at `position` and the next appear
pub record Split (old new : ℕ → Float) (m position : ℕ) : Type 0 where
  pub inside : position < m
  pub low : (k : ℕ) → k < position → new k ≡ old k
  pub high : (k : ℕ) → position < k → k < m → new (suc k) ≡ old k

module _ (old new : ℕ → Float) (m pos : ℕ) (j : Split old new m pos) where
  within : pos < m
  within = j.inside

  abbrev Others : ℕ → Type 0
  Others k = (k < suc m) × (k ≢ pos) × (k ≢ suc pos)

  -- another place than the two was one before
  came_from : (P : Float → Type 0) (k : ℕ) → Others k → (k < pos → P (old k)) → (pos < k - 1 → P (old (k - 1))) → P (new k)
  came_from P k s below above = go (dec_lt k pos)
    where
      go : Dec (k < pos) → P (new k)
      go (yes h) = rw (j.low k h) (below h)
      go (no h) =
          let d = s.1 in
          let e = s.2 in
          let c = s.0 in
          let one : suc (k - 1) ≡ k = omega arith in
          let b : pos < k - 1 = omega arith in
          let same : new k ≡ old (k - 1) = ap new (sym one) ∙ j.high (k - 1) b (omega arith) in
          rw same (above b)

  others : (v : Float) (p : ℕ) → LeastAt old m v p → p ≢ pos → Among Others new (record { figure = v; place = moved_up p pos })
  unfolding moved_up
  others v p at a = go (ltb pos p) refl
    where
      t : p < m
      t = at.there

      low : (k : ℕ) → Others k → lt (new k) v ≡ false
      low k s = let c = s.0 in came_from (λ x. lt x v ≡ false) k s (λ g. at.least k (omega (arith, within))) (λ g. at.least (k - 1) (omega arith))

      go : (u : Bool) → ltb pos p ≡ u → Among Others new (record { figure = v; place = cond u (p + 1) p })
      go true e =
          let h = ltb-true pos p e in
          let s : suc p ≡ p + 1 = omega arith in
          record {
            there = (omega (arith, t), omega arith, omega arith);
            is = at.is ∙ sym (ap new (sym s) ∙ j.high p h t);
            least = low;
            first = λ k s l. came_from (λ x. le x v ≡ false) k s (λ g. at.first k (omega arith)) (λ g. at.first (k - 1) (omega arith));
          }
      go false e =
          let h = ltb-false pos p e in
          record {
            there = (omega (arith, t), a, omega arith);
            is = at.is ∙ sym (j.low p (omega arith));
            least = low;
            first = λ k s l. let b : k < p = l in came_from (λ x. le x v ≡ false) k s (λ g. at.first k l) (λ g. absurd (omega arith));
          }

  splits : (v : Float) (p : ℕ) → LeastAt old m v p → p ≢ pos
      → let l = first_of (first_of (record { figure = v; place = moved_up p pos }) (record { figure = new pos; place = pos }))
      (record { figure = new (pos + 1); place = pos + 1 }) in
      LeastAt new (suc m) l.figure l.place
  splits v p at a =
      all_below _ new (suc m) _ (one_more _ new _ (one_more Others new _ (others v p at a) pos) (pos + 1)) inside every
    where
      inside : (k : ℕ) → (Others k ⊎ (k ≡ pos)) ⊎ (k ≡ pos + 1) → k < suc m
      inside k (inl (inl s)) = s.0
      inside k (inl (inr e)) = omega (arith, within)
      inside k (inr e) = omega (arith, within)

      every : (k : ℕ) → k < suc m → (Others k ⊎ (k ≡ pos)) ⊎ (k ≡ pos + 1)
      every k h = go (ℕ_discrete k pos) (ℕ_discrete k (pos + 1))
        where
          go : Dec (k ≡ pos) → Dec (k ≡ pos + 1) → (Others k ⊎ (k ≡ pos)) ⊎ (k ≡ pos + 1)
          go (yes e) d = inl (inr e)
          go (no e) (yes d) = inr d
          go (no e) (no d) = inl (inl (h, e, λ z. d (omega arith)))

  -- what is left is right
  pub came_right : (known : Least) → (T (finite known.figure) → LeastAt old m known.figure known.place)
      → let l = least_came known pos (new pos) (new (pos + 1)) in T (finite l.figure) → LeastAt new (suc m) l.figure l.place
  unfolding least_came
  came_right known h = go (finite known.figure) refl (eqb known.place pos) refl
    where
      go : (s : Bool) → finite known.figure ≡ s → (t : Bool) → eqb known.place pos ≡ t
          → let l : Least = cond s (cond t (forgotten known) (first_of (first_of (record { figure = known.figure; place = moved_up known.place pos })
          (record { figure = new pos; place = pos })) (record { figure = new (pos + 1); place = pos + 1 }))) known in
          T (finite l.figure) → LeastAt new (suc m) l.figure l.place
      go false e t g f = absurd (not_both (finite known.figure) f e)
      go true e true g f = absurd f
      go true e false g f = splits known.figure known.place (h (true-T (finite known.figure) e)) (eqb-false known.place pos g)

-- ---- as the code tries the new legs

module _ (known : Least) (position at : ℕ) (at-is : at ≡ position) (place : ℕ) (cost : ℕ → Float) where
  pub left_tried : (x : Float) (r : Least) → x ≡ cost at → place ≡ moved_down known.place position
      → r ≡ first_of (record { figure = known.figure; place = place }) (record { figure = x; place = position })
      → r ≡ first_of (record { figure = known.figure; place = moved_down known.place position }) (record { figure = cost position; place = position })
  left_tried x r e f g = g ∙ rw (e, f, at-is)

  pub came_tried : (x y : Float) (q r : Least) → x ≡ cost at → y ≡ cost (at + 1) → place ≡ moved_up known.place position
      → q ≡ first_of (record { figure = known.figure; place = place }) (record { figure = x; place = position })
      → r ≡ first_of q (record { figure = y; place = position + 1 })
      → r
      ≡ first_of (first_of (record { figure = known.figure; place = moved_up known.place position }) (record { figure = cost position; place = position }))
      (record { figure = cost (position + 1); place = position + 1 })
  came_tried x y q r e h f g k = k ∙ rw (g, e, h, f, at-is)
