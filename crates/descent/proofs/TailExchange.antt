-- Tail exchange tries exactly the exchanges of tails between two lists whose heads have a visit. Assumes nothing.
use mathlib.Core.Path.{◌≡◌, refl, sym, ap, ◌∙◌}
use mathlib.Core.Bool.{true, ◌&&◌}
use mathlib.Core.List.{List, ◌++◌, map}
use Prim.Native.Nat.{ℕ, suc, ◌≤◌, ◌<◌}
use native.Mathlib.Omega.{arith}
use lib.Dec.{T}
use lib.ListN.{length, take, drop, set, length-append}
use native.Mathlib.Decide.{dec_lt}
use lib.ListN.{take-append-drop}
use lib.Seq.{length-take-le, take-append_seam, drop-append_seam, set_comm}
use Rattle.descent.specs.Order.{◌∈◌, range}
use Rattle.descent.specs.Permitted.{Checks, fits, TailsExchanged, tails_exchanged, tail_exchange}
use Rattle.descent.specs.Across.{at, Pair, Tails, pairs, tail_cuts, new1, new2}
use Rattle.descent.proofs.Members.{T_true, true-T, and_parts, and_both, in_range, range_in, in_each, each_in, in_map, map_in}
use Rattle.descent.proofs.Kept.{permitted_keeps}
use Rattle.descent.proofs.Claims.{Tried, Covered, Faithful}

pub in_pairs : (n i j : ℕ) → i < j → j < n → ◌∈◌ {A = Pair} (record { one = i; other = j }) (pairs n)
in_pairs n i j ij jn =
    in_each (λ r1. map (λ r2. record { one = r1; other = r2 }) (range (suc r1) n)) (range 0 n) i (record { one = i; other = j })
    (in_range 0 n i (omega arith) (omega arith))
    (in_map (λ r2. record { one = i; other = r2 }) (range (suc i) n) j (in_range (suc i) n j ij jn))

pub pairs_in : (n : ℕ) (p : Pair) → p ∈ pairs n → (p.one < p.other) × (p.other < n)
pairs_in n p h =
    let a = each_in (λ r1. map (λ r2. record { one = r1; other = r2 }) (range (suc r1) n)) (range 0 n) p h in
    let b = map_in (λ r2. record { one = a.0; other = r2 }) (range (suc a.0) n) p a.2 in
    let c = range_in (suc a.0) n b.0 b.1 in
    rw (← b.2) (c.0, c.1)

pub in_tail_cuts : (ls : List (List ℕ)) (p : Pair) (c d : ℕ) → 1 ≤ c → c ≤ length (at ls p.one) → 1 ≤ d → d ≤ length (at ls p.other)
    → ◌∈◌ {A = Tails} (record { pair = p; cut1 = c; cut2 = d }) (tail_cuts ls p)
in_tail_cuts ls p c d h₁ h₂ h₃ h₄ =
    let n = suc (length (at ls p.one)) in
    let k = suc (length (at ls p.other)) in
    in_each (λ cut1. map (λ cut2. record { pair = p; cut1 = cut1; cut2 = cut2 }) (range 1 k)) (range 1 n) c (record { pair = p; cut1 = c; cut2 = d })
    (in_range 1 n c h₁ (omega arith))
    (in_map (λ cut2. record { pair = p; cut1 = c; cut2 = cut2 }) (range 1 k) d (in_range 1 k d h₃ (omega arith)))

pub tail_cuts_in : (ls : List (List ℕ)) (p : Pair) (t : Tails) → t ∈ tail_cuts ls p
    → (t.pair ≡ p) × (1 ≤ t.cut1) × (t.cut1 ≤ length (at ls p.one)) × (1 ≤ t.cut2) × (t.cut2 ≤ length (at ls p.other))
tail_cuts_in ls p t h =
    let n = suc (length (at ls p.one)) in
    let k = suc (length (at ls p.other)) in
    let a = each_in (λ cut1. map (λ cut2. record { pair = p; cut1 = cut1; cut2 = cut2 }) (range 1 k)) (range 1 n) t h in
    let b = map_in (λ cut2. record { pair = p; cut1 = a.0; cut2 = cut2 }) (range 1 k) t a.2 in
    let f = range_in 1 n a.0 a.1 in
    let g = range_in 1 k b.0 b.1 in
    rw (← b.2) (refl, f.0, omega arith, g.0, omega arith)

module _ (checks : Checks) where
  abbrev made : List (List ℕ) → Tails → List (List ℕ)
  made ls t = set (set ls t.pair.one (new1 ls t)) t.pair.other (new2 ls t)

  permits : (ls : List (List ℕ)) (t : Tails) → Tried tail_exchange checks ls t → (fits checks (new1 ls t) && fits checks (new2 ls t)) ≡ true
      → TailsExchanged checks ls (made ls t)
  permits ls t tried p =
      let a = pairs_in (length ls) tried.place tried.place_in in
      let b = tail_cuts_in ls tried.place t tried.move_in in
      let e = b.0 in
      let lt : t.pair.one < t.pair.other = rw e a.0 in
      let there : t.pair.other < length ls = rw e a.1 in
      let X = at ls t.pair.one in
      let Y = at ls t.pair.other in
      let l₁ = length-take-le t.cut1 X (rw e b.2) in
      let l₂ = length-take-le t.cut2 Y (rw e b.4) in
      let h₁ = b.1 in
      let h₂ = b.3 in
      let both = and_parts (fits checks (new1 ls t)) (fits checks (new2 ls t)) p in
      tails_exchanged (take t.cut1 X) (drop t.cut1 X) (take t.cut2 Y) (drop t.cut2 Y) (omega arith) (omega arith)
      (record {
        i = t.pair.one;
        j = t.pair.other;
        apart = λ q. omega arith;
        i_there = omega arith;
        j_there = there;
        at_i = sym (take-append-drop t.cut1 X);
        at_j = sym (take-append-drop t.cut2 Y);
        becomes = refl;
      })
      (true-T (fits checks (new1 ls t)) both.0) (true-T (fits checks (new2 ls t)) both.1)

  covered : (ls ms : List (List ℕ)) (i j : ℕ) (A B C D : List ℕ) → i < j → j < length ls → at ls i ≡ A ++ B → at ls j ≡ C ++ D
      → ms ≡ set (set ls i (A ++ D)) j (C ++ B) → 1 ≤ length A → 1 ≤ length C → T (fits checks (A ++ D)) → T (fits checks (C ++ B))
      → Covered tail_exchange checks ls ms
  covered ls ms i j A B C D ij jn at_i at_j becomes hA hC p q =
      let pair : Pair = record { one = i; other = j } in
      let t : Tails = record { pair = pair; cut1 = length A; cut2 = length C } in
      let X = at ls i in
      let Y = at ls j in
      let n₁ : new1 ls t ≡ A ++ D = rw (at_i, at_j, take-append_seam A B, drop-append_seam C D) in
      let n₂ : new2 ls t ≡ C ++ B = rw (at_i, at_j, take-append_seam C D, drop-append_seam A B) in
      let lX : length A ≤ length X = rw (at_i, length-append) (omega arith) in
      let lY : length C ≤ length Y = rw (at_j, length-append) (omega arith) in
      record {
        move = t;
        tried = record { place = pair; place_in = in_pairs (length ls) i j ij jn; move_in = in_tail_cuts ls pair (length A) (length C) hA lX hC lY };
        passes = rw (n₁, n₂) (and_both (fits checks (A ++ D)) (fits checks (C ++ B)) (T_true (fits checks (A ++ D)) p) (T_true (fits checks (C ++ B)) q));
        is = rw (n₁, n₂) (sym becomes);
      }

  covers : (ls ms : List (List ℕ)) → TailsExchanged checks ls ms → Covered tail_exchange checks ls ms
  covers ls ms (tails_exchanged A B C D hA hC L p q) = go (dec_lt L.i L.j)
    where
      go : Dec (L.i < L.j) → Covered tail_exchange checks ls ms
      go (yes lt) = covered ls ms L.i L.j A B C D lt L.j_there L.at_i L.at_j L.becomes hA hC p q
      go (no ge) =
          covered ls ms L.j L.i C D A B (omega (arith, L.apart)) L.i_there L.at_j L.at_i
          (L.becomes ∙ set_comm ls L.i L.j (A ++ D) (C ++ B) L.apart) hC hA q p

  pub tail_exchange_faithful : Faithful tail_exchange checks
  tail_exchange_faithful = record {
    permits = permits;
    covers = covers;
    places_stay = λ ls ms m. ap pairs (permitted_keeps tail_exchange checks ls ms m).number;
  }
