-- A test that `all` asks of each number of a range answers `all_below`, where the numbers before the range passed: number by number, as it asks them.
use Prim.Native.Nat.{ℕ, zero, suc, ◌+◌, ◌-◌, ◌≤◌}
use Rattle.std.proofs.Common.{arith, sym, subst, ap, ◌∙◌, refl}
use Rattle.std.specs.Prelude.{◌≡◌, Bool, true, false, ◌&&◌, Option, List}
use Rattle.std.specs.Fn.{Called}
use Rattle.std.specs.Iterator.{YieldsThen}
use Rattle.std.specs.List.{range_with_len, list_all, FoldsTo}
use Rattle.std.specs.Option.{MatchOption}
use Rattle.std.specs.declared.ops.Range.{Range}
use denote.Param.Members.{Mut}
use Rattle.std.proofs.iter.Yields.{nat_range_steps}
use Rattle.std.proofs.lemmas.Iterator.{YieldsList-from_range}
use Rattle.std.proofs.lemmas.Iterator.Search.{all_from_yields_List}
use Rattle.tests.specs.All.{all_below, all_more, all_fails}

range_tested : (p : ℕ → Bool) (a n : ℕ) → all_below p a ≡ true → list_all p (range_with_len a n) ≡ all_below p (a + n)
range_tested p a zero passed = sym (subst (λ (k : ℕ). all_below p k ≡ true) (omega arith) passed)
range_tested p a (suc n) passed = by_first (p a) refl (λ first. range_tested p (a + 1) n (all_more p a passed first))
  where
    by_first : (b : Bool) → p a ≡ b → (p a ≡ true → list_all p (range_with_len (a + 1) n) ≡ all_below p (a + 1 + n))
        → b && list_all p (range_with_len (a + 1) n) ≡ all_below p (a + suc n)
    by_first true e rest = rest e ∙ ap (all_below p) (omega arith)
    by_first false e rest = sym (all_fails p (a + suc n) a (omega arith) e)

-- what `all` answers over a range that ends at n
pub all_in_range : {F : Type 0} {g : Mut F (ℕ × Unit {0}) Bool} {s : Range ℕ} (p : ℕ → Bool) (n : ℕ) (u : Range ℕ) (f : F) (r : Bool)
    → (xs : List ℕ) × (o : Option ℕ) × (j : F) × YieldsThen nat_range_steps s xs o u × FoldsTo (λ q x k. Called g q (x, tt) true k) f xs j
    × MatchOption o (r ≡ true) (λ x. (r ≡ false) × ((h : F) × Called g j (x, tt) false h))
    → s.end ≡ n → s.start ≤ n → all_below p s.start ≡ true
    → ((x : ℕ) (b : Bool) (q : F) → Called g f (x, tt) b q → (q ≡ f) × (b ≡ p x)) → r ≡ all_below p n
all_in_range {s = s} p n u f r ran ends within passed each =
    all_from_yields_List p u f r ran (YieldsList-from_range s.start s.end (s.end - s.start) refl refl) each
    ∙ range_tested p s.start (s.end - s.start) passed ∙ ap (all_below p) (omega arith)
