-- 2-opt tries exactly the reversals of runs of two or more. Assumes nothing.
use mathlib.Core.Path.{◌≡◌, refl, ap, subst}
use mathlib.Core.Logic.{◌⊎◌, inl, inr}
use mathlib.Core.Bool.{true}
use mathlib.Core.List.{List, [], ◌++◌, reverse, map}
use Prim.Native.Nat.{ℕ, suc, ◌+◌, ◌-◌, ◌≤◌, ◌<◌}
use native.Mathlib.Omega.{arith}
use lib.Dec.{T}
use lib.ListN.{length, take, drop, length-append}
use lib.Seq.{slice, length-slice}
use Rattle.descent.specs.Order.{◌∈◌, here, range}
use Rattle.descent.specs.Permitted.{Checks, Reversed, reversed, two_opt}
use Rattle.descent.specs.Within.{Reversal, reversals, turned}
use Rattle.descent.proofs.Members.{T_true, true-T, in_cons, not_in, in_range, range_in, in_each, each_in, in_map, map_in}
use Rattle.descent.proofs.Cuts.{length_kept, cut, cut_A, cut_B, cut_C}
use Rattle.descent.proofs.Kept.{reversed_keeps}
use Rattle.descent.proofs.Claims.{Tried, Covered, Faithful}

-- the list of reversals holds the pairs of positions
pub in_reversals : (n i j : ℕ) → i < j → j < n → ◌∈◌ {A = Reversal} (record { first = i; last = j }) (reversals n)
in_reversals n i j ij jn =
    in_each (λ i. map (λ j. record { first = i; last = j }) (range (suc i) n)) (range 0 (n - 1)) i (record { first = i; last = j })
    (in_range 0 (n - 1) i (omega arith) (omega arith))
    (in_map (λ j. record { first = i; last = j }) (range (suc i) n) j (in_range (suc i) n j ij jn))

pub reversals_in : (n : ℕ) (r : Reversal) → r ∈ reversals n → (r.first < r.last) × (r.last < n)
reversals_in n r h =
    let a = each_in (λ i. map (λ j. record { first = i; last = j }) (range (suc i) n)) (range 0 (n - 1)) r h in
    let b = map_in (λ j. record { first = a.0; last = j }) (range (suc a.0) n) r a.2 in
    let c = range_in (suc a.0) n b.0 b.1 in
    rw (← b.2) (c.0, c.1)

module _ (checks : Checks) where
  permits : (xs : List ℕ) (r : Reversal) → Tried two_opt checks xs r → checks.passes (turned xs r) ≡ true → Reversed checks.passes xs (turned xs r)
  permits xs r tried p = go (in_cons tried.place [] r tried.move_in)
    where
      made : (i j : ℕ) → i < j → j < length xs → checks.passes (turned xs (record { first = i; last = j })) ≡ true
          → Reversed checks.passes xs (turned xs (record { first = i; last = j }))
      made i j ij jn p =
          let long = length-slice i (suc j) xs jn in
          subst (λ (z : List ℕ). Reversed checks.passes z (turned xs (record { first = i; last = j }))) (cut xs i (suc j) (omega arith))
          (reversed (take i xs) (slice i (suc j) xs) (drop (suc j) xs) (omega arith) (true-T (checks.passes (turned xs (record { first = i; last = j }))) p))

      go : (r ≡ tried.place) ⊎ (r ∈ []) → Reversed checks.passes xs (turned xs r)
      go (inl e) = let b = reversals_in (length xs) r (rw e tried.place_in) in made r.first r.last b.0 b.1 p
      go (inr h) = not_in h

  covered : (A B C : List ℕ) → 2 ≤ length B → T (checks.passes (A ++ reverse B ++ C)) → Covered two_opt checks (A ++ B ++ C) (A ++ reverse B ++ C)
  covered A B C two passed =
      let i = length A in
      let j = length A + length B - 1 in
      let r : Reversal = record { first = i; last = j } in
      let e : length A + length B ≡ suc j = omega arith in
      let jn : j < length (A ++ B ++ C) = simp length-append (omega arith) in
      let is : turned (A ++ B ++ C) r ≡ A ++ reverse B ++ C = rw (cut_A A B C i (suc j) refl e, cut_B A B C i (suc j) refl e, cut_C A B C i (suc j) refl e) in
      record {
        move = r;
        tried = record { place = r; place_in = in_reversals (length (A ++ B ++ C)) i j (omega arith) jn; move_in = here };
        passes = rw is (T_true (checks.passes (A ++ reverse B ++ C)) passed);
        is = is;
      }

  covers : (xs ys : List ℕ) → Reversed checks.passes xs ys → Covered two_opt checks xs ys
  covers xs ys (reversed A B C two passed) = covered A B C two passed

  pub two_opt_faithful : Faithful two_opt checks
  two_opt_faithful = record {
    permits = permits;
    covers = covers;
    places_stay = λ xs ys m. ap reversals (length_kept xs ys (λ f. reversed_keeps f checks.passes xs ys m));
  }
