-- A test that `all` asks of each entry of a slice answers `all_below` of the entries by index: it asks them one after another.
use Prim.Native.Nat.{ℕ, suc, ◌+◌}
use Rattle.std.proofs.Common.{arith, sym, subst, ap, ◌∙◌}
use Rattle.std.specs.Prelude.{◌≡◌, Bool, true, false, ◌&&◌, Option, List, [], ◌∷◌, length, get_or}
use Rattle.std.specs.Borrow.{Bor}
use Rattle.std.specs.Fn.{Called}
use Rattle.std.specs.Iterator.{YieldsThen}
use Rattle.std.specs.List.{list_all, FoldsTo}
use Rattle.std.specs.Option.{MatchOption}
use Rattle.std.specs.Slice.Iter.{iter_rest}
use Rattle.std.specs.declared.slice.Iter.{Iter}
use denote.Param.Members.{Mut}
use Rattle.std.proofs.iter.Yields.{fronts}
use Rattle.std.proofs.lemmas.Iterator.{YieldsList-from_slice}
use Rattle.std.proofs.lemmas.Iterator.Search.{all_from_yields_List}
use Rattle.tests.specs.All.{all_below, all_none, all_more, all_fails}

module _ {X : Type 0} (q : ℕ → Bool) (p : X → Bool) (d : X) where
  -- q asks of the number a + k what p asks of entry k
  abbrev Asks : List X → ℕ → Type 0
  Asks xs a = (k n : ℕ) → n ≡ a + k → q n ≡ p (get_or xs k d)

  rest_tested : (xs : List X) (a : ℕ) → Asks xs a → all_below q a ≡ true → list_all p xs ≡ all_below q (a + length xs)
  rest_tested [] a asks passed = sym (subst (λ (k : ℕ). all_below q k ≡ true) (omega arith) passed)
  rest_tested (x ∷ xs) a asks passed =
      by_first (p x) (asks 0 a (omega arith)) (λ first. rest_tested xs (a + 1) (λ k n e. asks (suc k) n (omega arith)) (all_more q a passed first))
    where
      by_first : (b : Bool) → q a ≡ b → (q a ≡ true → list_all p xs ≡ all_below q (a + 1 + length xs)) → b && list_all p xs ≡ all_below q (a + suc (length xs))
      by_first true e rest = rest e ∙ ap (all_below q) (omega arith)
      by_first false e rest = sym (all_fails q (a + suc (length xs)) a (omega arith) e)

-- what `all` answers over a slice
pub all_in_slice : {F X : Type 0} {g : Mut F (Bor X × Unit {0}) Bool} {s : Iter X} (p : X → Bool) (d : X) (xs : List X) (u : Iter X) (f : F) (r : Bool)
    → (ys : List (Bor X)) × (o : Option (Bor X)) × (j : F) × YieldsThen fronts s ys o u × FoldsTo (λ q x k. Called g q (x, tt) true k) f ys j
    × MatchOption o (r ≡ true) (λ x. (r ≡ false) × ((h : F) × Called g j (x, tt) false h))
    → iter_rest s ≡ xs
    → ((x : Bor X) (b : Bool) (q : F) → Called g f (x, tt) b q → (q ≡ f) × (b ≡ p x.now)) → r ≡ all_below (λ k. p (get_or xs k d)) (length xs)
all_in_slice p d xs u f r ran of each =
    all_from_yields_List p u f r ran (YieldsList-from_slice xs of) each
    ∙ rest_tested (λ k. p (get_or xs k d)) p d xs 0 (λ k n e. ap (λ i. p (get_or xs i d)) (omega arith)) (all_none _) ∙ ap (all_below _) (omega arith)
