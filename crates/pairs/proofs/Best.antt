-- The best of a set of moves, by the one total order: there is at most one; that of two sets is the first of both bests; and a scan that goes by the delta
-- alone finds it in a list whose moves stand in the order of their numbers. So every order of search agrees with every other. Assumes nothing.
use mathlib.Core.Path.{◌≡◌, refl, sym, ap, ◌∙◌, subst}
use mathlib.Core.Logic.{◌⊎◌, inl, inr}
use mathlib.Core.Bool.{Bool, true, false}
use mathlib.Core.Option.{Option, none, some}
use mathlib.Core.List.{List, [], ◌∷◌}
use lib.Dec.{T}
use lib.Ieee.{Float, lt}
use Rattle.numbers.specs.Value.{ordered}
use Rattle.numbers.proofs.Total as Total
use Rattle.descent.specs.Order.{◌∈◌, here, there}
use Rattle.descent.specs.Across.{Relocation}
use Rattle.descent.proofs.Members.{unlike, fails, true-T, and_parts, not_in, in_cons}
use Rattle.descent.proofs.Loops.{least_better, least_stays, first_found, first_passed}
use Rattle.descent.specs.Scan.{chosen, may, less, onward}
use Rattle.pairs.specs.Pairs.{earlier}
use Rattle.descent.proofs.Scanning.{onward_end}
use Rattle.pairs.proofs.Order.{better, better_irr, better_trans, better_total, better_later}
use Rattle.pairs.proofs.Sorted.{Sorted}

-- stands before, in the order of the numbers
abbrev pub Earlier : Relocation → Relocation → Type 0
Earlier m b = earlier m b ≡ true

-- the first of two moves, where there are such
unfoldable pub merge : (Relocation → Float) → Option Relocation → Option Relocation → Option Relocation
merge f none o = o
merge f (some m) none = some m
merge f (some m) (some b) = elim (better f m b) [ true ↦ some m | false ↦ some b ]

pub merge-better : (f : Relocation → Float) (m b : Relocation) → better f m b ≡ true → merge f (some m) (some b) ≡ some m
unfolding merge
merge-better f m b e = rw (e, merge)

pub merge-other : (f : Relocation → Float) (m b : Relocation) → better f m b ≡ false → merge f (some m) (some b) ≡ some b
unfolding merge
merge-other f m b e = rw (e, merge)

module _ (delta : Relocation → Float) (pass : Relocation → Bool) (bound : Float) where
  -- a move of the set that counts and passes, and no such move of it is better; or there is none
  abbrev pub Best : (Relocation → Type 0) → Option Relocation → Type 0
  Best S none = (m : Relocation) → S m → may delta pass bound m ≡ false
  Best S (some b) = S b × (may delta pass bound b ≡ true) × ((m : Relocation) → S m → may delta pass bound m ≡ true → better delta m b ≡ false)

  -- what counts is no NaN
  sound : (m : Relocation) → may delta pass bound m ≡ true → T (ordered (delta m))
  sound m e = Total.lt-left (delta m) bound (true-T (lt (delta m) bound) (and_parts (lt (delta m) bound) (pass m) e).0)

  pub best-one : (S : Relocation → Type 0) (o p : Option Relocation) → Best S o → Best S p → o ≡ p
  best-one S none none h k = refl
  best-one S none (some b) h k = absurd (unlike k.1 (h b k.0))
  best-one S (some a) none h k = absurd (unlike h.1 (k a h.0))
  best-one S (some a) (some b) h k =
      ap some (better_total delta a b (sound a h.1) (sound b k.1) (k.2 a h.0 h.1) (h.2 b k.0 k.1))

  -- of the same moves
  pub best_iff : (S R : Relocation → Type 0) (o : Option Relocation) → ((m : Relocation) → S m → R m) → ((m : Relocation) → R m → S m) → Best S o → Best R o
  best_iff S R none g h k = λ m x. k m (h m x)
  best_iff S R (some b) g h k = (g b k.0, k.1, λ m x. k.2 m (h m x))

  -- ---- of two sets

  -- what isn't better than the first of two isn't better than the second
  no_better : (x y z : Relocation) → better delta y z ≡ true → better delta x z ≡ false → better delta x y ≡ false
  no_better x y z yz xz = fails (better delta x y) (λ e. unlike (better_trans delta x y z e yz) xz)

  -- where c isn't better than b, what isn't better than c isn't better than b
  nor_better : (b c x : Relocation) → may delta pass bound b ≡ true → may delta pass bound c ≡ true → better delta c b ≡ false → better delta x c ≡ false
      → better delta x b ≡ false
  nor_better b c x eb ec cb xc = go (better delta b c) refl
    where
      go : (t : Bool) → better delta b c ≡ t → better delta x b ≡ false
      go true g = no_better x b c g xc
      go false g = subst (λ (z : Relocation). better delta x z ≡ false) (sym (better_total delta b c (sound b eb) (sound c ec) g cb)) xc

  pub best-merge : (S R : Relocation → Type 0) (o p : Option Relocation) → Best S o → Best R p → Best (λ m. S m ⊎ R m) (merge delta p o)
  unfolding merge
  best-merge S R none none h k = λ m. both m
    where
      both : (m : Relocation) → S m ⊎ R m → may delta pass bound m ≡ false
      both m (inl x) = h m x
      both m (inr x) = k m x
  best-merge S R (some b) none h k = (inl h.0, h.1, both)
    where
      both : (m : Relocation) → S m ⊎ R m → may delta pass bound m ≡ true → better delta m b ≡ false
      both m (inl x) e = h.2 m x e
      both m (inr x) e = absurd (unlike e (k m x))
  best-merge S R none (some c) h k = (inr k.0, k.1, both)
    where
      both : (m : Relocation) → S m ⊎ R m → may delta pass bound m ≡ true → better delta m c ≡ false
      both m (inl x) e = absurd (unlike e (h m x))
      both m (inr x) e = k.2 m x e
  best-merge S R (some b) (some c) h k = go (better delta c b) refl
    where
      go : (t : Bool) → better delta c b ≡ t → Best (λ m. S m ⊎ R m) (elim t [ true ↦ some c | false ↦ some b ])
      go true e = (inr k.0, k.1, both)
        where
          both : (m : Relocation) → S m ⊎ R m → may delta pass bound m ≡ true → better delta m c ≡ false
          both m (inl x) g = no_better m c b e (h.2 m x g)
          both m (inr x) g = k.2 m x g
      go false e = (inl h.0, h.1, both)
        where
          both : (m : Relocation) → S m ⊎ R m → may delta pass bound m ≡ true → better delta m b ≡ false
          both m (inl x) g = h.2 m x g
          both m (inr x) g = nor_better b c m h.1 k.1 e (k.2 m x g)

  -- ---- of a list in order

  -- one move, where it may be made
  abbrev alone : Relocation → Bool → Option Relocation
  alone m t = elim t [ true ↦ some m | false ↦ none ]

  best-alone : (m : Relocation) (t : Bool) → may delta pass bound m ≡ t → Best (λ x. x ≡ m) (alone m t)
  best-alone m true e = (refl, e, λ x g k. subst (λ (z : Relocation). better delta z m ≡ false) (sym g) (better_irr delta m))
  best-alone m false e = λ x g. ap (may delta pass bound) g ∙ e

  -- the best so far stands before what follows
  abbrev Leads : Option Relocation → List Relocation → Type 0
  Leads none ms = Unit {0}
  Leads (some b) ms = (m : Relocation) → m ∈ ms → Earlier b m

  leads_merge : (m : Relocation) (ms : List Relocation) (o : Option Relocation) (t : Bool) → ((x : Relocation) → x ∈ ms → Earlier m x) → Leads o (m ∷ ms)
      → Leads (merge delta (alone m t) o) ms
  unfolding merge
  leads_merge m ms none true h k = h
  leads_merge m ms none false h k = tt
  leads_merge m ms (some b) false h k = λ x i. k x (there i)
  leads_merge m ms (some b) true h k = go (better delta m b)
    where
      go : (t : Bool) → Leads (elim t [ true ↦ some m | false ↦ some b ]) ms
      go true = h
      go false = λ x i. k x (there i)

  -- one move more: the delta alone decides, since the move stands behind the best so far
  step : (m : Relocation) (ms : List Relocation) (o : Option Relocation) (t : Bool) → may delta pass bound m ≡ t → Leads o (m ∷ ms)
      → onward delta pass bound o (m ∷ ms) ≡ onward delta pass bound (merge delta (alone m t) o) ms
  unfolding onward chosen merge
  step m ms none true e k = first_found (may delta pass bound) (less delta pass bound) m ms e
  step m ms none false e k = first_passed (may delta pass bound) (less delta pass bound) m ms e
  step m ms (some b) false e k = ap some (least_stays (may delta pass bound) (less delta pass bound) b m ms (rw e))
  step m ms (some b) true e k = go (better delta m b) refl
    where
      same : better delta m b ≡ less delta pass bound m b
      same = better_later delta m b (k m here)

      go : (t : Bool) → better delta m b ≡ t
          → onward delta pass bound (some b) (m ∷ ms) ≡ onward delta pass bound (elim t [ true ↦ some m | false ↦ some b ]) ms
      go true g = ap some (least_better (may delta pass bound) (less delta pass bound) b m ms (rw (e, ← same) g))
      go false g = ap some (least_stays (may delta pass bound) (less delta pass bound) b m ms (rw (e, ← same) g))

  best-scan : (ms : List Relocation) (S : Relocation → Type 0) (o : Option Relocation) → Sorted Earlier ms → Leads o ms → Best S o
      → Best (λ x. S x ⊎ (x ∈ ms)) (onward delta pass bound o ms)
  best-scan [] S o s k h =
      rw (onward_end delta pass bound o)
      (best_iff S (λ x. S x ⊎ (x ∈ [])) o (λ m x. inl x) none_more h)
    where
      none_more : (m : Relocation) → S m ⊎ (m ∈ []) → S m
      none_more m (inl x) = x
      none_more m (inr x) = not_in x
  best-scan (m ∷ ms) S o s k h =
      rw (step m ms o (may delta pass bound m) refl k)
      (best_iff (λ x. (S x ⊎ (x ≡ m)) ⊎ (x ∈ ms)) (λ x. S x ⊎ (x ∈ m ∷ ms))
      (onward delta pass bound (merge delta (alone m (may delta pass bound m)) o) ms) over back
      (best-scan ms (λ x. S x ⊎ (x ≡ m)) (merge delta (alone m (may delta pass bound m)) o) s.1 (leads_merge m ms o (may delta pass bound m) s.0 k)
      (best-merge S (λ x. x ≡ m) o (alone m (may delta pass bound m)) h (best-alone m (may delta pass bound m) refl))))
    where
      over : (x : Relocation) → (S x ⊎ (x ≡ m)) ⊎ (x ∈ ms) → S x ⊎ (x ∈ m ∷ ms)
      over x (inl (inl a)) = inl a
      over x (inl (inr a)) = inr (rw a here)
      over x (inr a) = inr (there a)

      back : (x : Relocation) → S x ⊎ (x ∈ m ∷ ms) → (S x ⊎ (x ≡ m)) ⊎ (x ∈ ms)
      back x (inl a) = inl (inl a)
      back x (inr a) = at (in_cons m ms x a)
        where
          at : (x ≡ m) ⊎ (x ∈ ms) → (S x ⊎ (x ≡ m)) ⊎ (x ∈ ms)
          at (inl b) = inl (inr b)
          at (inr b) = inr b

  -- the first least of a list in order is its best
  pub best_sorted : (ms : List Relocation) → Sorted Earlier ms → Best (λ m. m ∈ ms) (onward delta pass bound none ms)
  best_sorted ms s =
      best_iff (λ m. ⊥ ⊎ (m ∈ ms)) (λ m. m ∈ ms) (onward delta pass bound none ms) only (λ m h. inr h)
      (best-scan ms (λ m. ⊥) none s tt (λ m h. absurd h))
    where
      only : (m : Relocation) → ⊥ ⊎ (m ∈ ms) → m ∈ ms
      only m (inl x) = absurd x
      only m (inr x) = x
