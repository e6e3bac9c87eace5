-- 3-opt tries exactly the seven arrangements of two neighbouring pieces behind the first visit. Assumes nothing.
use mathlib.Core.Path.{◌≡◌, refl, ap, subst}
use mathlib.Core.Bool.{Bool, true, false, ◌||◌}
use mathlib.Core.List.{List, [], ◌∷◌, ◌++◌, map}
use Prim.Native.Nat.{ℕ, suc, ◌+◌, ◌-◌, ◌≤◌, ◌<◌}
use native.Mathlib.Omega.{arith}
use lib.Dec.{T, leb}
use lib.ListN.{length, take, drop, length-append}
use lib.Seq.{slice, length-slice}
use borrow.Author.Tests.{leb-true, le-leb}
use lib.Seq.{length-take-le}
use Rattle.descent.specs.Order.{◌∈◌, here, there, range, each}
use Rattle.descent.specs.Permitted.{Checks, Arrangement, seven, arranged, Reconnected, reconnected, three_opt}
use Rattle.descent.specs.Within.{Cut, Reconnection, cuts, reconnect}
use Rattle.descent.proofs.Members.{T_true, true-T, not_in, in_range, range_in, in_each, each_in, in_map, map_in}
use Rattle.descent.proofs.Cuts.{length_kept, cut4, cut4_A, cut4_B, cut4_C, cut4_D}
use Rattle.descent.proofs.Kept.{reconnected_keeps}
use Rattle.descent.proofs.Claims.{Tried, Covered, Faithful}

triples : ℕ → List Cut
triples n = each (range 0 (n - 2)) λ i. each (range (suc i) (n - 1)) λ j. map (λ k. record { i = i; j = j; k = k }) (range (suc j) n)

in_triples : (n i j k : ℕ) → i < j → j < k → k < n → ◌∈◌ {A = Cut} (record { i = i; j = j; k = k }) (triples n)
unfolding triples
in_triples n i j k ij jk kn =
    let c : Cut = record { i = i; j = j; k = k } in
    in_each (λ i. each (range (suc i) (n - 1)) λ j. map (λ k. record { i = i; j = j; k = k }) (range (suc j) n)) (range 0 (n - 2)) i c
    (in_range 0 (n - 2) i (omega arith) (omega arith))
    (in_each (λ j. map (λ k. record { i = i; j = j; k = k }) (range (suc j) n)) (range (suc i) (n - 1)) j c (in_range (suc i) (n - 1) j ij (omega arith))
    (in_map (λ k. record { i = i; j = j; k = k }) (range (suc j) n) k (in_range (suc j) n k jk kn)))

triples_in : (n : ℕ) (c : Cut) → c ∈ triples n → (c.i < c.j) × (c.j < c.k) × (c.k < n)
unfolding triples
triples_in n c h =
    let a = each_in (λ i. each (range (suc i) (n - 1)) λ j. map (λ k. record { i = i; j = j; k = k }) (range (suc j) n)) (range 0 (n - 2)) c h in
    let b = each_in (λ j. map (λ k. record { i = a.0; j = j; k = k }) (range (suc j) n)) (range (suc a.0) (n - 1)) c a.2 in
    let d = map_in (λ k. record { i = a.0; j = b.0; k = k }) (range (suc b.0) n) c b.2 in
    let q = range_in (suc a.0) (n - 1) b.0 b.1 in
    let r = range_in (suc b.0) n d.0 d.1 in
    rw (← d.2) (q.0, r.0, r.1)

pub in_cuts : (n i j k : ℕ) → 4 ≤ n → i < j → j < k → k < n → ◌∈◌ {A = Cut} (record { i = i; j = j; k = k }) (cuts n)
unfolding triples
in_cuts n i j k four ij jk kn = rw (le-leb 4 n four, cuts) (in_triples n i j k ij jk kn)

pub cuts_in : (n : ℕ) (c : Cut) → c ∈ cuts n → (4 ≤ n) × (c.i < c.j) × (c.j < c.k) × (c.k < n)
unfolding triples
cuts_in n c h = go (leb 4 n) refl h
  where
    go : (b : Bool) → leb 4 n ≡ b → c ∈ elim b [ true ↦ triples n | false ↦ [] ] → (4 ≤ n) × (c.i < c.j) × (c.j < c.k) × (c.k < n)
    go true e h = let t = triples_in n c h in (leb-true 4 n e, t.0, t.1, t.2)
    go false e h = not_in h

module _ (checks : Checks) where
  permits : (xs : List ℕ) (r : Reconnection) → Tried three_opt checks xs r → checks.passes (reconnect xs r) ≡ true
      → Reconnected checks.passes xs (reconnect xs r)
  permits xs r tried p =
      let m = map_in (λ way. record { cut = tried.place; way = way }) seven r tried.move_in in
      let c = cuts_in (length xs) tried.place tried.place_in in
      rw (← m.2) (made tried.place m.0 m.1 c.0 c.1 c.2 c.3 (rw (← m.2) at p))
    where
      made : (c : Cut) (a : Arrangement) → a ∈ seven → 4 ≤ length xs → c.i < c.j → c.j < c.k → c.k < length xs
          → checks.passes (reconnect xs (record { cut = c; way = a })) ≡ true → Reconnected checks.passes xs (reconnect xs (record { cut = c; way = a }))
      made c a h four ij jk kn p =
          let i = c.i in let j = c.j in let k = c.k in
          let was = cut4 xs (suc i) (suc j) (suc k) (omega arith) (omega arith) in
          let lA = length-take-le (suc i) xs (omega arith) in
          let lB = length-slice (suc i) (suc j) xs (omega arith) in
          let lC = length-slice (suc j) (suc k) xs (omega arith) in
          subst (λ (z : List ℕ). Reconnected checks.passes z (reconnect xs (record { cut = c; way = a }))) was
          (reconnected (take (suc i) xs) (slice (suc i) (suc j) xs) (slice (suc j) (suc k) xs) (drop (suc k) xs) a h (rw was four) (omega arith)
          (omega arith) (omega arith)
          (true-T (checks.passes (reconnect xs (record { cut = c; way = a }))) p))

  covered : (A B C D : List ℕ) (a : Arrangement) → a ∈ seven → 4 ≤ length (A ++ B ++ C ++ D) → 1 ≤ length A → 1 ≤ length B → 1 ≤ length C
      → T (checks.passes (A ++ arranged a B C ++ D)) → Covered three_opt checks (A ++ B ++ C ++ D) (A ++ arranged a B C ++ D)
  covered A B C D a h four hA hB hC passed =
      let xs = A ++ B ++ C ++ D in
      let i = length A - 1 in
      let j = length A + length B - 1 in
      let k = length A + length B + length C - 1 in
      let ei : length A ≡ suc i = omega arith in
      let ej : length A + length B ≡ suc j = omega arith in
      let ek : length A + length B + length C ≡ suc k = omega arith in
      let kn : k < length xs = simp length-append (omega arith) in
      let c : Cut = record { i = i; j = j; k = k } in
      let r : Reconnection = record { cut = c; way = a } in
      let is : reconnect xs r ≡ A ++ arranged a B C ++ D =
      rw (
        cut4_A A B C D (suc i) (suc j) (suc k) ei ej ek,
        cut4_B A B C D (suc i) (suc j) (suc k) ei ej ek,
        cut4_C A B C D (suc i) (suc j)
            (suc k) ei ej ek,
        cut4_D A B C D (suc i) (suc j) (suc k) ei ej ek,
      ) in
      record {
        move = r;
        tried = record {
          place = c;
          place_in = in_cuts (length xs) i j k four (omega arith) (omega arith) kn;
          move_in = in_map
              (λ way. record { cut = c; way = way }) seven a h;
        };
        passes = rw is (T_true (checks.passes (A ++ arranged a B C ++ D)) passed);
        is = is;
      }

  covers : (xs ys : List ℕ) → Reconnected checks.passes xs ys → Covered three_opt checks xs ys
  covers xs ys (reconnected A B C D a h four hA hB hC passed) = covered A B C D a h four hA hB hC passed

  pub three_opt_faithful : Faithful three_opt checks
  three_opt_faithful = record {
    permits = permits;
    covers = covers;
    places_stay = λ xs ys m. ap cuts (length_kept xs ys (λ f. reconnected_keeps f checks.passes xs ys m));
  }

-- the seven are all arrangements but the one that changes nothing, each once
pub seven_all : (s b c : Bool) → T (s || b || c) → (s, b, c) ∈ seven
seven_all false false false t = absurd t
seven_all false false true t = here
seven_all false true false t = there here
seven_all false true true t = there (there here)
seven_all true false false t = there (there (there here))
seven_all true true false t = there (there (there (there here)))
seven_all true false true t = there (there (there (there (there here))))
seven_all true true true t = there (there (there (there (there (there here)))))

pub seven_other : map (λ (a : Arrangement). a.0 || a.1 || a.2) seven ≡ true ∷ true ∷ true ∷ true ∷ true ∷ true ∷ true ∷ []
seven_other = refl
