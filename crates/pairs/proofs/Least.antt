-- The least entry of a right table is the move that a scan of all relocations takes: each entry is the best of its pair, the first of two bests is the best
-- of both sets, all pairs together are all relocations, and there is one best. Assumes nothing.
use mathlib.Core.Path.{◌≡◌, refl, sym, ap, ap₂, ◌∙◌, subst}
use mathlib.Core.Logic.{◌⊎◌, inl, inr}
use mathlib.Core.Bool.{Bool, true, false, cond, not, ◌&&◌}
use mathlib.Core.Option.{Option, none, some}
use mathlib.Core.List.{List, [], ◌∷◌, map}
use Prim.Native.Nat.{ℕ}
use borrow.Author.Tests.{eq-eqb, ne_eqb}
use lib.Dec.{eqb}
use lib.ListN.{length}
use lib.Ieee.{Float, lt}
use Rattle.tests.specs.All.{and_left}
use Rattle.descent.specs.Order.{◌∈◌, here, there, range, each}
use Rattle.descent.specs.Across.{Relocation, relocations}
use Rattle.descent.proofs.Members.{and_parts, not_in, in_cons, range_in}
use Rattle.descent.specs.Scan.{onward, figure}
use Rattle.pairs.specs.Pairs.{between, as_move, move_of, nothing, less_then, earlier, ahead, first_of, first_among}
use Rattle.pairs.specs.Pairs.{is_found, entry, row_from, least_entry, pair_best, IsBest, Right}
use Rattle.pairs.specs.declared.Choice.{Choice}
use Rattle.pairs.specs.declared.PairTable.{PairTable}
use Rattle.pairs.proofs.Order.{better, less_then-less}
use Rattle.pairs.proofs.Rows.{among_append}
use Rattle.pairs.proofs.Best.{merge, merge-better, merge-other, Best, best-one, best_iff, best-merge, best_sorted}
use Rattle.pairs.proofs.Listed.{between_sorted, OfPairs, relocations_sorted, relocation_of, of_relocations}

-- ---- a choice that is found, and one that isn't

pub is_none : (found : ℕ) → found ≡ 0 → not (eqb found 0) ≡ false
is_none found e = ap not (eq-eqb found 0 e)

pub is_some : (found : ℕ) → (found ≡ 0 → ⊥) → not (eqb found 0) ≡ true
is_some found h = ap not (ne_eqb found 0 h)

pub found_move : (c : Choice) → is_found c ≡ true → move_of c ≡ some (as_move c)
unfolding move_of
found_move c e = rw (e, move_of)

pub no_move : (c : Choice) → is_found c ≡ false → move_of c ≡ none
unfolding move_of
no_move c e = rw (e, move_of)

-- ---- the first of two

first_taken : (best c : Choice) → ahead c best ≡ true → first_of best c ≡ c
unfolding first_of
first_taken best c e = rw e

first_stays : (best c : Choice) → ahead c best ≡ false → first_of best c ≡ best
unfolding first_of
first_stays best c e = rw e

ahead_found : (c best : Choice) → is_found c ≡ true → ahead c best ≡ less_then c.delta best.delta (earlier (as_move c) (as_move best))
unfolding ahead
ahead_found c best e = and_true (is_found c) (less_then c.delta best.delta (earlier (as_move c) (as_move best))) e
  where
    and_true : (a b : Bool) → a ≡ true → (a && b) ≡ b
    and_true a b e = rw e

module _ (delta : Relocation → Float) (pass : Relocation → Bool) (bound : Float) where
  -- a choice is the best of a set, with its delta
  pub record Standing (S : Relocation → Type 0) (c : Choice) : Type 0 where
    pub figured : c.delta ≡ figure delta pass bound (move_of c)
    pub best : Best delta pass bound S (move_of c)

  -- a choice's delta is its move's, which is below the bound; with none it is the bound
  pub found_delta : (S : Relocation → Type 0) (c : Choice) → Standing S c → is_found c ≡ true → (lt c.delta bound ≡ true) × (c.delta ≡ delta (as_move c))
  unfolding figure
  found_delta S c s e =
      let b : Best delta pass bound S (some (as_move c)) = subst (λ (o : Option Relocation). Best delta pass bound S o) (found_move c e) s.best in
      let d : c.delta ≡ delta (as_move c) = s.figured ∙ ap (figure delta pass bound) (found_move c e) in
      (ap (λ (x : Float). lt x bound) d ∙ (and_parts (lt (delta (as_move c)) bound) (pass (as_move c)) b.1).0, d)

  pub none_delta : (S : Relocation → Type 0) (c : Choice) → Standing S c → is_found c ≡ false → c.delta ≡ bound
  unfolding figure
  none_delta S c s e = s.figured ∙ ap (figure delta pass bound) (no_move c e)

  -- ---- the first of two choices is the best of both sets

  module _ (S R : Relocation → Type 0) (best c : Choice) (s : Standing S best) (r : Standing R c) where
    none_found : is_found c ≡ false → move_of (first_of best c) ≡ merge delta (move_of c) (move_of best)
    unfolding ahead merge
    none_found e = ap move_of (first_stays best c (and_left (is_found c) _ e)) ∙ ap (λ (o : Option Relocation). merge delta o (move_of best)) (sym (no_move c e))

    one_found : is_found c ≡ true → is_found best ≡ false → move_of (first_of best c) ≡ merge delta (move_of c) (move_of best)
    unfolding merge
    one_found e f =
        let below : lt c.delta best.delta ≡ true = ap (lt c.delta) (none_delta S best s f) ∙ (found_delta R c r e).0 in
        ap move_of (first_taken best c (ahead_found c best e ∙ sym (less_then-less c.delta best.delta (earlier (as_move c) (as_move best)) below)))
        ∙ found_move c e ∙ sym (ap₂ (merge delta) (found_move c e) (no_move best f))

    both_found : is_found c ≡ true → is_found best ≡ true → (t : Bool) → better delta (as_move c) (as_move best) ≡ t
        → move_of (first_of best c) ≡ merge delta (move_of c) (move_of best)
    unfolding better
    both_found e f t g = go t g
      where
        order : ahead c best ≡ better delta (as_move c) (as_move best)
        order = ahead_found c best e
            ∙ ap₂ (λ (x y : Float). less_then x y (earlier (as_move c) (as_move best))) (found_delta R c r e).1 (found_delta S best s f).1

        go : (t : Bool) → better delta (as_move c) (as_move best) ≡ t → move_of (first_of best c) ≡ merge delta (move_of c) (move_of best)
        go true g = ap move_of (first_taken best c (order ∙ g)) ∙ found_move c e
            ∙ sym (ap₂ (merge delta) (found_move c e) (found_move best f) ∙ merge-better delta (as_move c) (as_move best) g)
        go false g = ap move_of (first_stays best c (order ∙ g)) ∙ found_move best f
            ∙ sym (ap₂ (merge delta) (found_move c e) (found_move best f) ∙ merge-other delta (as_move c) (as_move best) g)

    first_merge : move_of (first_of best c) ≡ merge delta (move_of c) (move_of best)
    first_merge = go (is_found c) refl (is_found best) refl
      where
        go : (a : Bool) → is_found c ≡ a → (b : Bool) → is_found best ≡ b → move_of (first_of best c) ≡ merge delta (move_of c) (move_of best)
        go false e b f = none_found e
        go true e false f = one_found e f
        go true e true f = both_found e f (better delta (as_move c) (as_move best)) refl

    first_figured : (first_of best c).delta ≡ figure delta pass bound (move_of (first_of best c))
    unfolding first_of
    first_figured = go (ahead c best)
      where
        go : (t : Bool) → (cond t c best).delta ≡ figure delta pass bound (move_of (cond t c best))
        go true = r.figured
        go false = s.figured

    first_standing : Standing (λ m. S m ⊎ R m) (first_of best c)
    first_standing = record {
      figured = first_figured;
      best = rw first_merge (best-merge delta pass bound S R (move_of best) (move_of c) s.best r.best);
    }

  standing_iff : (S R : Relocation → Type 0) (c : Choice) → ((m : Relocation) → S m → R m) → ((m : Relocation) → R m → S m) → Standing S c → Standing R c
  standing_iff S R c g h s = record { figured = s.figured; best = best_iff delta pass bound S R (move_of c) g h s.best }

  -- ---- one after another

  -- of one of some sets
  abbrev Some : {A : Type 0} → List A → (A → Relocation → Type 0) → Relocation → Type 0
  Some {A} xs R m = (a : A) × (a ∈ xs) × R a m

  module _ {A : Type 0} (R : A → Relocation → Type 0) (S : Relocation → Type 0) where
    none_more : (m : Relocation) → S m ⊎ Some [] R m → S m
    none_more m (inl x) = x
    none_more m (inr x) = not_in x.1

    -- the first set, then the others
    over : (x : A) (xs : List A) (m : Relocation) → (S m ⊎ R x m) ⊎ Some xs R m → S m ⊎ Some (x ∷ xs) R m
    over x xs m (inl (inl s)) = inl s
    over x xs m (inl (inr r)) = inr (x, here, r)
    over x xs m (inr p) = inr (p.0, there p.1, p.2)

    back : (x : A) (xs : List A) (m : Relocation) → S m ⊎ Some (x ∷ xs) R m → (S m ⊎ R x m) ⊎ Some xs R m
    back x xs m (inl s) = inl (inl s)
    back x xs m (inr p) = go (in_cons x xs p.0 p.1)
      where
        go : (p.0 ≡ x) ⊎ (p.0 ∈ xs) → (S m ⊎ R x m) ⊎ Some xs R m
        go (inl e) = inl (inr (subst (λ (a : A). R a m) e p.2))
        go (inr i) = inr (p.0, i, p.2)

  each_standing : {A : Type 0} (h : A → List Choice) (R : A → Relocation → Type 0) (xs : List A)
      → ((a : A) → a ∈ xs → (S : Relocation → Type 0) (best : Choice) → Standing S best → Standing (λ m. S m ⊎ R a m) (first_among (h a) best))
      → (S : Relocation → Type 0) (best : Choice) → Standing S best → Standing (λ m. S m ⊎ Some xs R m) (first_among (each xs h) best)
  unfolding first_among
  each_standing h R [] turn S best s = standing_iff S (λ m. S m ⊎ Some [] R m) best (λ m x. inl x) (none_more R S) s
  each_standing h R (x ∷ xs) turn S best s =
      rw (among_append (h x) (each xs h) best)
      (standing_iff (λ m. (S m ⊎ R x m) ⊎ Some xs R m) (λ m. S m ⊎ Some (x ∷ xs) R m) (first_among (each xs h) (first_among (h x) best))
      (over R S x xs) (back R S x xs)
      (each_standing h R xs (λ a i. turn a (there i)) (λ m. S m ⊎ R x m) (first_among (h x) best) (turn x here S best s)))

  row_standing : {A : Type 0} (g : A → Choice) (R : A → Relocation → Type 0) (xs : List A) → ((a : A) → a ∈ xs → Standing (R a) (g a))
      → (S : Relocation → Type 0) (best : Choice) → Standing S best → Standing (λ m. S m ⊎ Some xs R m) (first_among (map g xs) best)
  unfolding first_among
  row_standing g R [] turn S best s = standing_iff S (λ m. S m ⊎ Some [] R m) best (λ m x. inl x) (none_more R S) s
  row_standing g R (x ∷ xs) turn S best s =
      standing_iff (λ m. (S m ⊎ R x m) ⊎ Some xs R m) (λ m. S m ⊎ Some (x ∷ xs) R m) (first_among (map g xs) (first_of best (g x)))
      (over R S x xs) (back R S x xs)
      (row_standing g R xs (λ a i. turn a (there i)) (λ m. S m ⊎ R x m) (first_of best (g x)) (first_standing S (R x) best (g x) s (turn x here)))

  -- ---- the table

  module _ (ls : List (List ℕ)) where
    -- a pair's best stands for its moves
    pub pair_standing : (from to : ℕ) (c : Choice) → IsBest delta pass bound ls from to c → Standing (λ m. m ∈ between ls from to) c
    unfolding pair_best
    pair_standing from to c b = record {
      figured = b.figured;
      best = rw b.best (best_sorted delta pass bound (between ls from to) (between_sorted ls from to));
    }

    nothing_standing : Standing (λ m. ⊥) (nothing bound)
    unfolding move_of figure
    nothing_standing = record { figured = refl; best = λ m h. absurd h }

    table_standing : (n : ℕ) (t : PairTable) → Right delta pass bound ls n t → Standing (OfPairs ls n) (least_entry n bound t)
    unfolding least_entry
    table_standing n t r =
        standing_iff (λ m. ⊥ ⊎ OfPairs ls n m) (OfPairs ls n) (least_entry n bound t) only (λ m p. inr p)
        (each_standing (λ from. row_from n bound t from 0) (λ from. Some (range 0 n) (λ to m. m ∈ between ls from to)) (range 0 n)
        (λ from i. row_standing (entry bound t from) (λ to m. m ∈ between ls from to) (range 0 n)
        (λ to j. pair_standing from to (entry bound t from to) (r.right from to (range_in 0 n from i).1 (range_in 0 n to j).1 tt)))
        (λ m. ⊥) (nothing bound) nothing_standing)
      where
        only : (m : Relocation) → ⊥ ⊎ OfPairs ls n m → OfPairs ls n m
        only m (inl x) = absurd x
        only m (inr p) = p

    -- the least entry is the move that a scan of all relocations takes, with its delta
    pub least_entry_taken : (t : PairTable) → Right delta pass bound ls (length ls) t
        → move_of (least_entry (length ls) bound t) ≡ onward delta pass bound none (relocations ls)
    least_entry_taken t r =
        best-one delta pass bound (λ m. m ∈ relocations ls) (move_of (least_entry (length ls) bound t)) (onward delta pass bound none (relocations ls))
        (standing_iff (OfPairs ls (length ls)) (λ m. m ∈ relocations ls) (least_entry (length ls) bound t) (of_relocations ls) (relocation_of ls)
        (table_standing (length ls) t r)).best
        (best_sorted delta pass bound (relocations ls) (relocations_sorted ls))
