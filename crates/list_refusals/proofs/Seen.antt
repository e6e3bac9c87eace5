-- Where the loop of `all_distinct` stands: just the offices passed are marked as seen, so that an office is new exactly where it isn't marked.
-- Assumes nothing.
use mathlib.Core.Path.{◌≡◌, refl, sym, ap, ◌∙◌}
use mathlib.Core.Bool.{Bool, true, false, not, false≢true}
use mathlib.Core.List.{List}
use Prim.Native.Nat.{ℕ, zero, suc, ◌+◌, ◌≤◌, ◌<◌}
use native.Mathlib.Decide.{ℕ_discrete}
use native.Mathlib.Numerals.{add-one}
use native.Mathlib.Omega.{arith}
use borrow.Author.Tests.{eq-eqb, ne_eqb}
use lib.Dec.{eqb}
use lib.ListN.{length, get_or, set, replicate, length-set, length-replicate}
use lib.Seq.{get_or-set_same, get_or-set_other}
use Rattle.tests.specs.All.{all_below, all_none, all_more, all_fails, all_end}
use Rattle.list_refusals.specs.Refused.{new_at, distinct}

pub record Seen (visits : List ℕ) (seen : List Bool) (j : ℕ) : Type 0 where
  pub reached : j ≤ length visits
  pub size : length seen ≡ 64
  pub marked : (i : ℕ) → i < j → get_or seen (get_or visits i 0) false ≡ true
  pub passed_by : (k : ℕ) → get_or seen k false ≡ true → (i : ℕ) × (i < j) × (get_or visits i 0 ≡ k)
  pub all_new : all_below (λ k. new_at visits k) j ≡ true

none_seen : (n k : ℕ) → get_or (replicate n false) k false ≡ false
none_seen zero k = refl
none_seen (suc n) zero = refl
none_seen (suc n) (suc k) = none_seen n k

pub seen_starts : (visits : List ℕ) → Seen visits (replicate 64 false) 0
seen_starts visits = record {
  reached = omega arith;
  size = length-replicate 64 false;
  marked = λ i h. absurd (omega arith);
  passed_by = λ k e. absurd (false≢true (sym (none_seen 64 k) ∙ e));
  all_new = all_none _;
}

-- what holds of each number below a bound is a test of all
every : (p : ℕ → Bool) (n : ℕ) → ((i : ℕ) → i < n → p i ≡ true) → all_below p n ≡ true
every p zero h = all_none p
every p (suc n) h = rw (← add-one n) (all_more p n (every p n (λ i k. h i (omega arith))) (h n (omega arith)))

module _ (visits : List ℕ) (seen : List Bool) (j : ℕ) (s : Seen visits seen j) (there : j < length visits) where
  -- an office that is marked isn't new, and one that isn't is
  pub seen_again : get_or seen (get_or visits j 0) false ≡ true → false ≡ distinct visits
  unfolding distinct new_at
  seen_again e =
      let before = s.passed_by (get_or visits j 0) e in
      let old = all_fails (λ i. not (eqb (get_or visits i 0) (get_or visits j 0))) j before.0 before.1 (ap not (eq-eqb _ _ before.2)) in
      sym (all_fails (λ k. new_at visits k) (length visits) j there old)

  seen_new : get_or seen (get_or visits j 0) false ≡ false → new_at visits j ≡ true
  unfolding new_at
  seen_new e =
      every (λ i. not (eqb (get_or visits i 0) (get_or visits j 0))) j
      (λ i h. ap not (ne_eqb _ _ (λ same. false≢true (sym e ∙ sym (ap (λ k. get_or seen k false) same) ∙ s.marked i h))))

  pub seen_turns : get_or visits j 0 < 64 → get_or seen (get_or visits j 0) false ≡ false → Seen visits (set seen (get_or visits j 0) true) (j + 1)
  seen_turns small e = record {
    reached = omega arith;
    size = length-set seen (get_or visits j 0) true ∙ s.size;
    marked = λ i h. mark i h (ℕ_discrete (get_or visits i 0) (get_or visits j 0));
    passed_by = λ k m. pass k m (ℕ_discrete k (get_or visits j 0));
    all_new = all_more (λ k. new_at visits k) j s.all_new (seen_new e);
  }
    where
      here : get_or (set seen (get_or visits j 0) true) (get_or visits j 0) false ≡ true
      here = get_or-set_same seen (get_or visits j 0) true false (rw s.size small)

      mark : (i : ℕ) → i < j + 1 → Dec (get_or visits i 0 ≡ get_or visits j 0) → get_or (set seen (get_or visits j 0) true) (get_or visits i 0) false ≡ true
      mark i h (yes same) = rw same here
      mark i h (no o) =
          rw (get_or-set_other seen (get_or visits j 0) (get_or visits i 0) true false o)
          (s.marked i (earlier (ℕ_discrete i j)))
        where
          earlier : Dec (i ≡ j) → i < j
          earlier (yes d) = absurd (o (ap (λ k. get_or visits k 0) d))
          earlier (no d) = omega arith

      pass : (k : ℕ) → get_or (set seen (get_or visits j 0) true) k false ≡ true → Dec (k ≡ get_or visits j 0) → (i : ℕ) × (i < j + 1) × (get_or visits i 0 ≡ k)
      pass k m (yes same) = (j, omega arith, sym same)
      pass k m (no o) =
          let old = s.passed_by k (sym (get_or-set_other seen (get_or visits j 0) k true false o) ∙ m) in
          (old.0, omega (arith, old.1), old.2)

pub seen_ends : (visits : List ℕ) (seen : List Bool) (j : ℕ) → Seen visits seen j → length visits ≤ j → true ≡ distinct visits
unfolding distinct
seen_ends visits seen j s h = all_end (λ k. new_at visits k) (length visits) j s.reached h s.all_new
