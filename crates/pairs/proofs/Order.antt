-- One strict total order of the moves: by (delta, from list, position, to list, place), where the deltas are no NaN; level by level, since each level is a
-- strict total order and equal ones are left to the next. Assumes nothing.
use mathlib.Core.Path.{◌≡◌, refl, sym, ap, ◌∙◌}
use mathlib.Core.Logic.{◌⊎◌, inl, inr}
use mathlib.Core.Bool.{Bool, true, false, ◌&&◌, ◌||◌}
use Prim.Native.Nat.{ℕ, ◌≤◌, ◌<◌}
use native.Mathlib.Omega.{arith}
use borrow.Author.Tests.{ltb-true, ltb-false, lt-ltb, le-ltb, eqb-true, eq-eqb}
use lib.Dec.{T, ltb, eqb}
use lib.Ieee.{Float, lt, eq}
use Rattle.numbers.specs.Value.{ordered}
use Rattle.numbers.proofs.Total as Total
use Rattle.descent.specs.Across.{Relocation}
use Rattle.descent.proofs.Members.{unlike, fails, T_true, true-T, and_parts, and_both}
use Rattle.pairs.specs.Pairs.{in_order, earlier, less_then}

-- ---- tests

or_parts : (a b : Bool) → (a || b) ≡ true → (a ≡ true) ⊎ (b ≡ true)
or_parts true b e = inl refl
or_parts false b e = inr e

or_left : (a b : Bool) → a ≡ true → (a || b) ≡ true
or_left a b e = rw e

or_right : (a b : Bool) → b ≡ true → (a || b) ≡ true
or_right true b e = refl
or_right false b e = e

or_none : (a b : Bool) → (a || b) ≡ false → (a ≡ false) × (b ≡ false)
or_none true b e = absurd (unlike refl e)
or_none false b e = (refl, e)

-- ---- one number, then the rest

in_order-less : (a b : ℕ) (rest : Bool) → a < b → true ≡ in_order a b rest
unfolding in_order
in_order-less a b rest h = rw (lt-ltb a b h)

in_order_same : (a b : ℕ) (rest : Bool) → b ≤ a → a ≡ b → rest ≡ in_order a b rest
unfolding in_order
in_order_same a b rest h e = rw (le-ltb a b h, eq-eqb a b e)

in_order_view : (a b : ℕ) (rest : Bool) → in_order a b rest ≡ true → (a < b) ⊎ ((a ≡ b) × (rest ≡ true))
unfolding in_order
in_order_view a b rest e = go (or_parts (ltb a b) (eqb a b && rest) e)
  where
    go : (ltb a b ≡ true) ⊎ ((eqb a b && rest) ≡ true) → (a < b) ⊎ ((a ≡ b) × (rest ≡ true))
    go (inl h) = inl (ltb-true a b h)
    go (inr h) = let p = and_parts (eqb a b) rest h in inr (eqb-true a b p.0, p.1)

in_order_irr : (a : ℕ) (rest : Bool) → rest ≡ false → in_order a a rest ≡ false
in_order_irr a rest h = fails (in_order a a rest) (λ e. view (in_order_view a a rest e))
  where
    view : (a < a) ⊎ ((a ≡ a) × (rest ≡ true)) → ⊥
    view (inl l) = omega arith
    view (inr p) = unlike p.1 h

in_order_next : (a b : ℕ) (rest : Bool) → a ≡ b → rest ≡ true → in_order a b rest ≡ true
in_order_next a b rest e h = sym (in_order_same a b rest (omega arith) e) ∙ h

in_order_trans : (a b c : ℕ) (r s t : Bool) → (r ≡ true → s ≡ true → t ≡ true) → in_order a b r ≡ true → in_order b c s ≡ true → in_order a c t ≡ true
in_order_trans a b c r s t rest h k = go (in_order_view a b r h) (in_order_view b c s k)
  where
    go : (a < b) ⊎ ((a ≡ b) × (r ≡ true)) → (b < c) ⊎ ((b ≡ c) × (s ≡ true)) → in_order a c t ≡ true
    go (inl x) (inl y) = sym (in_order-less a c t (omega arith))
    go (inl x) (inr y) = let e = y.0 in sym (in_order-less a c t (omega arith))
    go (inr x) (inl y) = let e = x.0 in sym (in_order-less a c t (omega arith))
    go (inr x) (inr y) = in_order_next a c t (x.0 ∙ y.0) (rest x.1 y.1)

in_order_total : (a b : ℕ) (r s : Bool) → in_order a b r ≡ false → in_order b a s ≡ false → (a ≡ b) × (r ≡ false) × (s ≡ false)
unfolding in_order
in_order_total a b r s h k =
    let p = or_none (ltb a b) (eqb a b && r) h in
    let q = or_none (ltb b a) (eqb b a && s) k in
    let x = ltb-false a b p.0 in
    let y = ltb-false b a q.0 in
    let e : a ≡ b = omega arith in
    (e, last (eqb a b) r (eq-eqb a b e) p.1, last (eqb b a) s (eq-eqb b a (sym e)) q.1)
  where
    last : (x r : Bool) → x ≡ true → (x && r) ≡ false → r ≡ false
    last x r e f = cc

-- ---- the four numbers

earlier_irr : (m : Relocation) → earlier m m ≡ false
unfolding earlier
earlier_irr m =
    in_order_irr m.from _ (in_order_irr m.position _ (in_order_irr m.to _ (le-ltb m.place m.place (omega arith))))

earlier_trans : (m b c : Relocation) → earlier m b ≡ true → earlier b c ≡ true → earlier m c ≡ true
unfolding earlier
earlier_trans m b c =
    in_order_trans m.from b.from c.from _ _ _
    (in_order_trans m.position b.position c.position _ _ _
    (in_order_trans m.to b.to c.to _ _ _
    (λ h k. let x = ltb-true m.place b.place h in let y = ltb-true b.place c.place k in lt-ltb m.place c.place (omega arith))))

-- the same numbers are the same move
pub same_move : (m b : Relocation) → m.from ≡ b.from → m.position ≡ b.position → m.to ≡ b.to → m.place ≡ b.place → m ≡ b
same_move m b p q r s =
    ap (λ (z : ℕ). record { from = z; position = m.position; to = m.to; place = m.place }) p
    ∙ ap (λ (z : ℕ). record { from = b.from; position = z; to = m.to; place = m.place }) q
    ∙ ap (λ (z : ℕ). record { from = b.from; position = b.position; to = z; place = m.place }) r
    ∙ ap (λ (z : ℕ). record { from = b.from; position = b.position; to = b.to; place = z }) s

earlier_total : (m b : Relocation) → earlier m b ≡ false → earlier b m ≡ false → m ≡ b
unfolding earlier
earlier_total m b h k =
    let p = in_order_total m.from b.from _ _ h k in
    let q = in_order_total m.position b.position _ _ p.1 p.2 in
    let r = in_order_total m.to b.to _ _ q.1 q.2 in
    let x = ltb-false m.place b.place r.1 in
    let y = ltb-false b.place m.place r.2 in
    same_move m b p.0 q.0 r.0 (omega arith)

pub earlier_not : (m b : Relocation) → earlier m b ≡ true → earlier b m ≡ false
earlier_not m b h = fails (earlier b m) (λ e. unlike (earlier_trans m b m h e) (earlier_irr m))

-- four ways to be earlier
pub by_place : (m b : Relocation) → m.from ≡ b.from → m.position ≡ b.position → m.to ≡ b.to → m.place < b.place → earlier m b ≡ true
unfolding earlier
by_place m b p q r s = in_order_next m.from b.from _ p (in_order_next m.position b.position _ q (in_order_next m.to b.to _ r
    (lt-ltb m.place b.place s)))

pub by_to : (m b : Relocation) → m.from ≡ b.from → m.position ≡ b.position → m.to < b.to → earlier m b ≡ true
unfolding earlier
by_to m b p q r = in_order_next m.from b.from _ p (in_order_next m.position b.position _ q (sym (in_order-less m.to b.to _ r)))

pub by_position : (m b : Relocation) → m.from ≡ b.from → m.position < b.position → earlier m b ≡ true
unfolding earlier
by_position m b p q = in_order_next m.from b.from _ p (sym (in_order-less m.position b.position _ q))

pub by_from : (m b : Relocation) → m.from < b.from → earlier m b ≡ true
unfolding earlier
by_from m b p = sym (in_order-less m.from b.from _ p)

-- ---- the delta, then the rest

pub less_then-less : (a b : Float) (rest : Bool) → lt a b ≡ true → true ≡ less_then a b rest
unfolding less_then
less_then-less a b rest h = rw h

less_then_view : (a b : Float) (rest : Bool) → less_then a b rest ≡ true → T (lt a b) ⊎ (T (eq a b) × (rest ≡ true))
unfolding less_then
less_then_view a b rest e = go (or_parts (lt a b) (eq a b && rest) e)
  where
    go : (lt a b ≡ true) ⊎ ((eq a b && rest) ≡ true) → T (lt a b) ⊎ (T (eq a b) × (rest ≡ true))
    go (inl h) = inl (true-T (lt a b) h)
    go (inr h) = let p = and_parts (eq a b) rest h in inr (true-T (eq a b) p.0, p.1)

less_then-lt : (a b : Float) (rest : Bool) → T (lt a b) → less_then a b rest ≡ true
less_then-lt a b rest h = sym (less_then-less a b rest (T_true (lt a b) h))

less_then_next : (a b : Float) (rest : Bool) → T (eq a b) → rest ≡ true → less_then a b rest ≡ true
unfolding less_then
less_then_next a b rest h e = or_right (lt a b) (eq a b && rest) (and_both (eq a b) rest (T_true (eq a b) h) e)

-- ---- the order of the moves

-- (delta, from, position, to, place)
unfoldable pub better : (Relocation → Float) → Relocation → Relocation → Bool
better f m b = less_then (f m) (f b) (earlier m b)

module _ (f : Relocation → Float) where
  pub better_irr : (m : Relocation) → better f m m ≡ false
  unfolding better
  better_irr m = fails (less_then (f m) (f m) (earlier m m)) (λ e. view (less_then_view (f m) (f m) (earlier m m) e))
    where
      view : T (lt (f m) (f m)) ⊎ (T (eq (f m) (f m)) × (earlier m m ≡ true)) → ⊥
      view (inl h) = Total.lt_irrefl (f m) h
      view (inr p) = unlike p.1 (earlier_irr m)

  pub better_trans : (m b c : Relocation) → better f m b ≡ true → better f b c ≡ true → better f m c ≡ true
  unfolding better
  better_trans m b c h k = go (less_then_view (f m) (f b) (earlier m b) h) (less_then_view (f b) (f c) (earlier b c) k)
    where
      go : T (lt (f m) (f b)) ⊎ (T (eq (f m) (f b)) × (earlier m b ≡ true)) → T (lt (f b) (f c)) ⊎ (T (eq (f b) (f c)) × (earlier b c ≡ true))
          → less_then (f m) (f c) (earlier m c) ≡ true
      go (inl x) (inl y) = less_then-lt (f m) (f c) (earlier m c) (Total.lt_trans (f m) (f b) (f c) x y)
      go (inl x) (inr y) = less_then-lt (f m) (f c) (earlier m c) (Total.lt-le_trans (f m) (f b) (f c) x (Total.eq→le (f b) (f c) y.0))
      go (inr x) (inl y) = less_then-lt (f m) (f c) (earlier m c) (Total.le_lt_trans (f m) (f b) (f c) (Total.eq→le (f m) (f b) x.0) y)
      go (inr x) (inr y) =
          less_then_next (f m) (f c) (earlier m c) (Total.eq_trans (f m) (f b) (f c) x.0 y.0) (earlier_trans m b c x.1 y.1)

  pub better_total : (m b : Relocation) → T (ordered (f m)) → T (ordered (f b)) → better f m b ≡ false → better f b m ≡ false → m ≡ b
  unfolding better
  better_total m b om ob h k = go (Total.lt-eq_gt (f m) (f b) om ob)
    where
      go : T (lt (f m) (f b)) ⊎ (T (eq (f m) (f b)) ⊎ T (lt (f b) (f m))) → m ≡ b
      go (inl x) = absurd (unlike (less_then-lt (f m) (f b) (earlier m b) x) h)
      go (inr (inr x)) = absurd (unlike (less_then-lt (f b) (f m) (earlier b m) x) k)
      go (inr (inl x)) =
          earlier_total m b
          (fails (earlier m b) (λ e. unlike (less_then_next (f m) (f b) (earlier m b) x e) h))
          (fails (earlier b m) (λ e. unlike (less_then_next (f b) (f m) (earlier b m) (Total.eq-sym (f m) (f b) x) e) k))

  -- of a later move only the delta counts
  pub better_later : (m b : Relocation) → earlier b m ≡ true → better f m b ≡ lt (f m) (f b)
  unfolding better less_then
  better_later m b h = go (lt (f m) (f b)) (eq (f m) (f b)) (earlier m b) (earlier_not b m h)
    where
      go : (x y z : Bool) → z ≡ false → (x || (y && z)) ≡ x
      go true y z e = refl
      go false true z e = e
      go false false z e = refl
