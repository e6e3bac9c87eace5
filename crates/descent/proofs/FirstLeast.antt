-- `first_least` is what its name says, where `less` is the strict side of an order; and there is only one. Assumes nothing.
use mathlib.Core.Path.{◌≡◌, refl, sym, ap, ◌∙◌}
use mathlib.Core.Logic.{◌⊎◌, inl, inr}
use mathlib.Core.Bool.{Bool, true, false, ◌&&◌}
use mathlib.Core.Option.{some}
use mathlib.Core.List.{List, [], ◌∷◌}
use Rattle.descent.specs.Order.{◌∈◌, here, there}
use Rattle.descent.specs.Search.{least, first_least}
use Rattle.descent.proofs.Members.{clash, unlike, fails, and_parts, and_both, in_cons}

decide : (b : Bool) → (b ≡ false → ⊥) → b ≡ true
decide true h = refl
decide false h = absurd (h refl)

module _ {C : Type 0} (ok : C → Bool) (less : C → C → Bool) where
  -- m is the first least of a list: it stands at the head and none after it is less; or else m is less than the head, if that is ok, and the first
  -- least of the rest
  pub data IsFirstLeast : List C → C → Type 0 where
    now : (m : C) (cs : List C) → ok m ≡ true → ((c : C) → c ∈ cs → ok c ≡ true → less c m ≡ false) → IsFirstLeast (m ∷ cs) m
    later : (c : C) (cs : List C) (m : C) → (ok c ≡ true → less m c ≡ true) → IsFirstLeast cs m → IsFirstLeast (c ∷ cs) m

  is_ok : (cs : List C) (m : C) → IsFirstLeast cs m → (m ∈ cs) × (ok m ≡ true)
  is_ok cs m (now n ds o h) = (here, o)
  is_ok cs m (later c ds n f F) = let r = is_ok ds n F in (there r.0, r.1)

  module _ (trans : (a b c : C) → less a b ≡ true → less b c ≡ true → less a c ≡ true)
      (negtrans : (a b c : C) → less a b ≡ false → less b c ≡ false → less a c ≡ false) where
    below_head : (c : C) (cs : List C) (m : C) → ok c ≡ true → IsFirstLeast (c ∷ cs) m → (less m c ≡ true) ⊎ (m ≡ c)
    below_head c cs m o (now n ds p h) = inr refl
    below_head c cs m o (later d ds n f F) = inl (f o)

    -- one more behind the head that is not less than the best
    insert : (best c : C) (cs : List C) (m : C) → ok best ≡ true → (ok c && less c best) ≡ false → IsFirstLeast (best ∷ cs) m → IsFirstLeast (best ∷ c ∷ cs) m
    insert best c cs m o no_less (now n ds p h) =
        now best (c ∷ cs) p (λ d i q. go d (in_cons c cs d i) q)
      where
        go : (d : C) → (d ≡ c) ⊎ (d ∈ cs) → ok d ≡ true → less d best ≡ false
        go d (inl e) q = fails (less d best) (λ l. unlike (and_both (ok c) (less c best) (ap ok (sym e) ∙ q) (ap (λ (x : C). less x best) (sym e) ∙ l))
            no_less)
        go d (inr i) q = h d i q
    insert best c cs m o no_less (later d ds n f F) =
        later best (c ∷ cs) m f (later c cs m (λ q. decide (less m c) (λ l. unlike (f o) (negtrans m c best l (not_less q)))) F)
      where
        not_less : ok c ≡ true → less c best ≡ false
        not_less q = go (less c best) refl
          where
            go : (b : Bool) → less c best ≡ b → b ≡ false
            go true l = absurd (unlike (and_both (ok c) (less c best) q l) no_less)
            go false l = refl

    least_is : (best : C) (cs : List C) → ok best ≡ true → IsFirstLeast (best ∷ cs) (least ok less best cs)
    unfolding least
    least_is best [] o = now best [] o (λ c i q. nothing c i)
      where
        nothing : (c : C) → c ∈ [] → less c best ≡ false
        nothing c = elim [ ]
    least_is best (c ∷ cs) o = go (ok c && less c best) refl (least_is c cs) (least_is best cs o)
      where
        go : (b : Bool) → (ok c && less c best) ≡ b → (ok c ≡ true → IsFirstLeast (c ∷ cs) (least ok less c cs))
            → IsFirstLeast (best ∷ cs) (least ok less best cs)
            → IsFirstLeast (best ∷ c ∷ cs) (elim b [ true ↦ least ok less c cs | false ↦ least ok less best cs ])
        go true e newer older =
            let t = and_parts (ok c) (less c best) e in
            let F = newer t.0 in
            later best (c ∷ cs) (least ok less c cs) (λ q. under (least ok less c cs) t.1 (below_head c cs (least ok less c cs) t.0 F)) F
          where
            under : (m : C) → less c best ≡ true → (less m c ≡ true) ⊎ (m ≡ c) → less m best ≡ true
            under m l (inl k) = trans m c best k l
            under m l (inr k) = rw k l
        go false e newer older = insert best c cs (least ok less best cs) o e older

    pub first_least_is : (cs : List C) (m : C) → first_least ok less cs ≡ some m → IsFirstLeast cs m
    unfolding first_least
    first_least_is [] m e = absurd (clash e)
    first_least_is (c ∷ cs) m e = go (ok c) refl e (first_least_is cs m)
      where
        go : (b : Bool) → ok c ≡ b → elim b [ true ↦ some (least ok less c cs) | false ↦ first_least ok less cs ] ≡ some m
            → (first_least ok less cs ≡ some m → IsFirstLeast cs m) → IsFirstLeast (c ∷ cs) m
        go true q e rest = let s : least ok less c cs ≡ m = cc in rw s at (least_is c cs q)
        go false q e rest = later c cs m (λ p. absurd (unlike p q)) (rest e)

  pub first_least_one : (cs : List C) (m n : C) → IsFirstLeast cs m → IsFirstLeast cs n → m ≡ n
  first_least_one cs m n (now a ds o h) (now b es p k) = refl
  first_least_one cs m n (now a ds o h) (later c es b f G) = let r = is_ok es b G in absurd (unlike (f o) (h b r.0 r.1))
  first_least_one cs m n (later c ds a f F) (now b es p k) = let r = is_ok ds a F in absurd (unlike (f p) (k a r.0 r.1))
  first_least_one cs m n (later c ds a f F) (later d es b g G) = first_least_one ds a b F G
