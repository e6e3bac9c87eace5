-- A scan that keeps the first strictly least, from any best on: it comes to the better of that best and what the scan finds from nothing on, so the pairs
-- of lists can be searched one by one, and a pair whose least delta isn't below the best needn't be. Assumes nothing.
use mathlib.Core.Path.{◌≡◌, refl, sym, ap, subst, ◌∙◌}
use mathlib.Core.Logic.{inl, inr, ◌⊎◌}
use mathlib.Core.Bool.{Bool, true, false, not, true≢false}
use mathlib.Core.List.{List, [], ◌∷◌}
use Prim.Native.Nat.{ℕ}
use lib.Dec.{T}
use lib.IntN.{ℤ}
use lib.Ieee.{Float, lt, le, neg}
use Rattle.std.specs.Prelude.{Option, Some, None}
use Rattle.numbers.specs.Operations.{◌⊕◌, ◌⊖◌}
use Rattle.numbers.specs.Value.{ordered}
use Rattle.numbers.proofs.Total as Total
use Rattle.labels.specs.Columns.{Columns}
use Rattle.descent.proofs.Members.{T_true, true-T}
use Rattle.fleet.specs.Fleet.{Fleet}
use Rattle.cross_moves.specs.CrossDepot.{Plan, of_pair}
use Rattle.cross_moves.specs.declared.pair.Pair.{Pair}
use Rattle.cross_moves.specs.declared.pair.Move.{Move}
use Rattle.descent.specs.Order.{scan}
use Rattle.cross_choices.specs.Scan.{decided, better, better_in, nothing, best_of_pair, best_from}
use Rattle.cross_choices.specs.declared.Choice.{Choice}
use Rattle.cross_deltas.specs.Deltas.{joined, Sunk, least_of}
use Rattle.cross_deltas.proofs.Kept.{takes, stays}
use Rattle.cross_search.proofs.Choosing.{all-of_pair}

-- ---- tests

fails : (b : Bool) → (b ≡ true → ⊥) → b ≡ false
fails true h = absurd (h refl)
fails false h = refl

false-T : (b : Bool) → b ≡ false → T (not b)
false-T true e = absurd (true≢false e)
false-T false e = tt

T_false : (b : Bool) → T (not b) → b ≡ false
T_false true t = absurd t
T_false false t = refl

-- where the middle one is a number, what isn't below it isn't below what it isn't below
not_below : (x y z : Float) → T (ordered y) → lt z y ≡ false → lt y x ≡ false → lt z x ≡ false
not_below x y z number e f = fails (lt z x) refute
  where
    refute : lt z x ≡ true → ⊥
    refute h =
        let below : T (lt z x) = true-T (lt z x) h in
        let above : T (le y z) = Total.not_lt→le z y (Total.lt-left z x below) number (false-T (lt z y) e) in
        true≢false (sym (T_true (lt y x) (Total.le_lt_trans y z x above below)) ∙ f)

-- ---- the better of two

joined_assoc : (x y z : Choice) → T (ordered y.delta) → joined (joined x y) z ≡ joined x (joined y z)
joined_assoc x y z number = by (lt y.delta x.delta) refl (lt z.delta y.delta) refl
  where
    by : (s : Bool) → lt y.delta x.delta ≡ s → (t : Bool) → lt z.delta y.delta ≡ t → joined (joined x y) z ≡ joined x (joined y z)
    by true e true f =
        let less : lt z.delta x.delta ≡ true = T_true _ (Total.lt_trans z.delta y.delta x.delta (true-T _ f) (true-T _ e)) in
        ap (λ w. joined w z) (takes x y e) ∙ takes y z f ∙ sym (ap (joined x) (takes y z f) ∙ takes x z less)
    by true e false f = ap (λ w. joined w z) (takes x y e) ∙ stays y z f ∙ sym (ap (joined x) (stays y z f) ∙ takes x y e)
    by false e true f = ap (λ w. joined w z) (stays x y e) ∙ sym (ap (joined x) (takes y z f))
    by false e false f =
        ap (λ w. joined w z) (stays x y e) ∙ stays x z (not_below x.delta y.delta z.delta number f e)
        ∙ sym (ap (joined x) (stays y z f) ∙ stays x y e)

joined_number : (x y : Choice) → T (ordered x.delta) → T (ordered (joined x y).delta)
joined_number x y number = by (lt y.delta x.delta) refl
  where
    by : (t : Bool) → lt y.delta x.delta ≡ t → T (ordered (joined x y).delta)
    by true e = subst (λ w. T (ordered w.delta)) (sym (takes x y e)) (Total.lt-left y.delta x.delta (true-T _ e))
    by false e = subst (λ w. T (ordered w.delta)) (sym (stays x y e)) number

joined_sunk : (floor : Float) (x y : Choice) → Sunk floor x → Sunk floor (joined x y)
joined_sunk floor x y sunk = by (lt y.delta x.delta) refl
  where
    below : lt y.delta x.delta ≡ true → Sunk floor x → lt y.delta (neg floor) ≡ true
    below e (inl is) = ap (λ w. lt y.delta w.delta) (sym is) ∙ e
    below e (inr h) = T_true _ (Total.lt_trans y.delta x.delta (neg floor) (true-T _ e) (true-T _ h))

    by : (t : Bool) → lt y.delta x.delta ≡ t → Sunk floor (joined x y)
    by true e = subst (Sunk floor) (sym (takes x y e)) (inr (below e sunk))
    by false e = subst (Sunk floor) (sym (stays x y e)) sunk

-- ---- a scan

-- one candidate more: it leaves the best as it is, or takes the better of the best and another
abbrev Tries : (Choice → Choice) → Type 0
Tries g = ((z : Choice) → g z ≡ z) ⊎ ((new : Choice) × ((z : Choice) → g z ≡ joined z new))

one_joined : (g : Choice → Choice) → Tries g → (x y : Choice) → T (ordered y.delta) → g (joined x y) ≡ joined x (g y)
one_joined g (inl same) x y number = same (joined x y) ∙ sym (ap (joined x) (same y))
one_joined g (inr t) x y number = t.1 (joined x y) ∙ joined_assoc x y t.0 number ∙ sym (ap (joined x) (t.1 y))

one_number : (g : Choice → Choice) → Tries g → (y : Choice) → T (ordered y.delta) → T (ordered (g y).delta)
one_number g (inl same) y number = subst (λ w. T (ordered w.delta)) (sym (same y)) number
one_number g (inr t) y number = subst (λ w. T (ordered w.delta)) (sym (t.1 y)) (joined_number y t.0 number)

one_sunk : (floor : Float) (g : Choice → Choice) → Tries g → (x : Choice) → Sunk floor x → Sunk floor (g x)
one_sunk floor g (inl same) x sunk = subst (Sunk floor) (sym (same x)) sunk
one_sunk floor g (inr t) x sunk = subst (Sunk floor) (sym (t.1 x)) (joined_sunk floor x t.0 sunk)

-- what each step keeps, a scan keeps
scan_keeps : {A B : Type 0} (P : B → Type 0) (f : A → B → B) → ((x : A) (b : B) → P b → P (f x b)) → (xs : List A) (b : B) → P b → P (scan f xs b)
unfolding scan
scan_keeps P f step [] b h = h
scan_keeps P f step (x ∷ xs) b h = scan_keeps P f step xs (f x b) (step x b h)

module _ {A : Type 0} (f : A → Choice → Choice) (tries : (m : A) → Tries (f m)) where
  scan-joined : (ms : List A) (x y : Choice) → T (ordered y.delta) → scan f ms (joined x y) ≡ joined x (scan f ms y)
  unfolding scan
  scan-joined [] x y number = refl
  scan-joined (m ∷ ms) x y number =
      ap (scan f ms) (one_joined (f m) (tries m) x y number) ∙ scan-joined ms x (f m y) (one_number (f m) (tries m) y number)

  module _ (floor : Float) (ms : List A) where
    scan_sunk : (x : Choice) → Sunk floor x → Sunk floor (scan f ms x)
    scan_sunk x sunk = scan_keeps (Sunk floor) f (λ m. one_sunk floor (f m) (tries m)) ms x sunk

    from_none : scan f ms (nothing floor) ≡ joined (nothing floor) (scan f ms (nothing floor))
    from_none = by (scan_sunk (nothing floor) (inl refl))
      where
        level : lt (neg floor) (neg floor) ≡ false
        level = fails _ (λ h. Total.lt_irrefl (neg floor) (true-T _ h))

        by : Sunk floor (scan f ms (nothing floor)) → scan f ms (nothing floor) ≡ joined (nothing floor) (scan f ms (nothing floor))
        by (inl same) =
            same ∙ sym (stays (nothing floor) (scan f ms (nothing floor)) (ap (λ w. lt w.delta (neg floor)) same ∙ level))
        by (inr h) = sym (takes (nothing floor) (scan f ms (nothing floor)) h)

    -- the better of the best and what the scan finds from nothing on
    scan_parts : (x : Choice) → Sunk floor x → scan f ms x ≡ joined x (scan f ms (nothing floor))
    scan_parts x (inl is) = subst (λ w. scan f ms w ≡ joined w (scan f ms (nothing floor))) (sym is) from_none
    scan_parts x (inr h) =
        let below : T (lt x.delta (neg floor)) = true-T _ h in
        let above : lt (neg floor) x.delta ≡ false = T_false _ (Total.lt_asym x.delta (neg floor) below) in
        ap (scan f ms) (sym (stays x (nothing floor) above)) ∙ scan-joined ms x (nothing floor) (Total.lt_right x.delta (neg floor) below)

-- ---- the pairs of lists

tries_decided : (pair : Pair) (m : Move) (q1 q2 : Option Float) → Tries (decided pair m q1 q2)
unfolding decided joined
tries_decided pair m None q2 = inl (λ z. refl)
tries_decided pair m (Some x) None = inl (λ z. refl)
tries_decided pair m (Some x) (Some y) =
    let new : Choice = record { found = 1; chosen = m; delta = x ⊕ y ⊖ pair.before; cost1 = x; cost2 = y } in
    inr (new, λ z. refl)

module _ (c : Columns) (demand : List ℤ) (fleet : Fleet) (p : Plan) where
  tries_in : (m : Move) → Tries (better_in c demand fleet p m)
  unfolding better_in better
  tries_in m = tries_decided _ m _ _

  module _ (floor : Float) where
    pair_sunk : (a b : ℕ) (x : Choice) → Sunk floor x → Sunk floor (best_of_pair c demand fleet p a b x)
    pair_sunk a b x sunk =
        subst (Sunk floor) (sym (all-of_pair c demand fleet p a b x)) (scan_sunk (better_in c demand fleet p) tries_in floor (of_pair fleet p a b) x sunk)

    pub from_sunk : (a : ℕ) (x r : Choice) → Sunk floor x → r ≡ best_from c demand fleet p a x → Sunk floor r
    unfolding best_from
    from_sunk a x r sunk is = subst (Sunk floor) (sym is) (scan_keeps (Sunk floor) (best_of_pair c demand fleet p a) (pair_sunk a) _ x sunk)

    module _ (a b : ℕ) (best : Choice) (sunk : Sunk floor best) where
      pair_parts : best_of_pair c demand fleet p a b best ≡ joined best (best_of_pair c demand fleet p a b (nothing floor))
      pair_parts =
          all-of_pair c demand fleet p a b best ∙ scan_parts (better_in c demand fleet p) tries_in floor (of_pair fleet p a b) best sunk
          ∙ sym (ap (joined best) (all-of_pair c demand fleet p a b (nothing floor)))

      pub after_sunk : (r : Choice) → r ≡ best_of_pair c demand fleet p a b best → Sunk floor r
      after_sunk r is = subst (Sunk floor) (sym is) (pair_sunk a b best sunk)

      -- a pair whose least delta isn't below the best's
      pub pair_skipped : (least : Float) → least ≡ least_of c demand fleet p floor a b → lt least best.delta ≡ false
          → best ≡ best_of_pair c demand fleet p a b best
      unfolding least_of
      pair_skipped least is e =
          sym (pair_parts ∙ stays best (best_of_pair c demand fleet p a b (nothing floor)) (ap (λ w. lt w best.delta) (sym is) ∙ e))

      -- one that was searched from nothing on
      pub pair_searched : (fresh r : Choice) → fresh ≡ best_of_pair c demand fleet p a b (nothing floor) → r ≡ joined best fresh
          → r ≡ best_of_pair c demand fleet p a b best
      pair_searched fresh r is e = e ∙ ap (joined best) is ∙ sym pair_parts

      pub least_is : (fresh : Choice) → fresh ≡ best_of_pair c demand fleet p a b (nothing floor) → fresh.delta ≡ least_of c demand fleet p floor a b
      unfolding least_of
      least_is fresh is = ap (λ w. w.delta) is
