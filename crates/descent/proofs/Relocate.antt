-- Relocate tries exactly the moves of one visit to any place of another list. Assumes nothing.
use mathlib.Core.Path.{◌≡◌, refl, sym}
use mathlib.Core.Logic.{◌≢◌, ◌⊎◌, inl, inr}
use mathlib.Core.Bool.{Bool, true, ◌&&◌}
use mathlib.Core.List.{List, [], ◌∷◌, ◌++◌, map}
use Prim.Native.Nat.{ℕ, suc, ◌≤◌, ◌<◌}
use native.Mathlib.Omega.{arith}
use lib.ListN.{length, take, drop, get_or, set, length-append}
use native.Mathlib.Decide.{dec_lt}
use lib.ListN.{take-append-drop}
use lib.Seq.{take-append_seam, drop-append_seam, split_at, get_or-append_seam, append_snoc, drop_at}
use Rattle.descent.specs.Order.{◌∈◌, here, range, each}
use Rattle.descent.specs.Permitted.{Checks, fits, giver_passes, Relocated, relocated, relocate}
use Rattle.descent.specs.Across.{at, Relocation, relocations, giver, receiver}
use Rattle.descent.proofs.Members.{T_true, true-T, and_parts, and_both, in_left, in_right, in_either, in_range, range_in, in_each, each_in, in_map}
use Rattle.descent.proofs.Members.{map_in}
use Rattle.descent.proofs.Claims.{Tried, Covered, Faithful}

others : ℕ → ℕ → List ℕ
others from n = range 0 from ++ range (suc from) n

in_others : (from n to : ℕ) → to ≢ from → to < n → to ∈ others from n
unfolding others
in_others from n to ne h = go (dec_lt to from)
  where
    go : Dec (to < from) → to ∈ range 0 from ++ range (suc from) n
    go (yes l) = in_left (range (suc from) n) (in_range 0 from to (omega arith) l)
    go (no l) = in_right (range 0 from) (in_range (suc from) n to (omega arith) h)

others_in : (from n to : ℕ) → from < n → to ∈ others from n → (to ≢ from) × (to < n)
unfolding others
others_in from n to f h = go (in_either (range 0 from) (range (suc from) n) to h)
  where
    go : (to ∈ range 0 from) ⊎ (to ∈ range (suc from) n) → (to ≢ from) × (to < n)
    go (inl k) = let r = range_in 0 from to k in (λ e. omega arith, omega arith)
    go (inr k) = let r = range_in (suc from) n to k in (λ e. omega arith, omega arith)

pub in_relocations : (ls : List (List ℕ)) (i a j b : ℕ) → i < length ls → a < length (at ls i) → j ≢ i → j < length ls → b ≤ length (at ls j)
    → ◌∈◌ {A = Relocation} (record { from = i; position = a; to = j; place = b }) (relocations ls)
unfolding others
in_relocations ls i a j b hi ha ne hj hb =
    let m : Relocation = record { from = i; position = a; to = j; place = b } in
    in_each (λ from.
    each (range 0 (length (at ls from))) λ position.
    each (range 0 from ++ range (suc from) (length ls)) λ to.
    map (λ place. record { from = from; position = position; to = to; place = place }) (range 0 (suc (length (at ls to))))
    ) (range 0 (length ls)) i m (in_range 0 (length ls) i (omega arith) hi)
    (in_each (λ position.
    each (range 0 i ++ range (suc i) (length ls)) λ to.
    map (λ place. record { from = i; position = position; to = to; place = place }) (range 0 (suc (length (at ls to))))
    ) (range 0 (length (at ls i))) a m (in_range 0 (length (at ls i)) a (omega arith) ha)
    (in_each (λ to.
    map (λ place. record { from = i; position = a; to = to; place = place }) (range 0 (suc (length (at ls to))))
    ) (range 0 i ++ range (suc i) (length ls)) j m (in_others i (length ls) j ne hj)
    (in_map (λ place. record { from = i; position = a; to = j; place = place }) (range 0 (suc (length (at ls j)))) b
    (in_range 0 (suc (length (at ls j))) b (omega arith) (omega arith)))))

pub relocations_in : (ls : List (List ℕ)) (m : Relocation) → m ∈ relocations ls
    → (m.from < length ls) × (m.position < length (at ls m.from)) × (m.to ≢ m.from) × (m.to < length ls) × (m.place ≤ length (at ls m.to))
unfolding others
relocations_in ls m h =
    let f = each_in (λ from.
    each (range 0 (length (at ls from))) λ position.
    each (range 0 from ++ range (suc from) (length ls)) λ to.
    map (λ place. record { from = from; position = position; to = to; place = place }) (range 0 (suc (length (at ls to))))
    ) (range 0 (length ls)) m h in
    let i = f.0 in
    let p = each_in (λ position.
    each (range 0 i ++ range (suc i) (length ls)) λ to.
    map (λ place. record { from = i; position = position; to = to; place = place }) (range 0 (suc (length (at ls to))))
    ) (range 0 (length (at ls i))) m f.2 in
    let a = p.0 in
    let t = each_in (λ to.
    map (λ place. record { from = i; position = a; to = to; place = place }) (range 0 (suc (length (at ls to))))
    ) (range 0 i ++ range (suc i) (length ls)) m p.2 in
    let j = t.0 in
    let q = map_in (λ place. record { from = i; position = a; to = j; place = place }) (range 0 (suc (length (at ls j)))) m t.2 in
    let hi = range_in 0 (length ls) i f.1 in
    let ha = range_in 0 (length (at ls i)) a p.1 in
    let hj = others_in i (length ls) j hi.1 t.1 in
    let hb = range_in 0 (suc (length (at ls j))) q.0 q.1 in
    rw (← q.2) (hi.1, ha.1, hj.0, hj.1, omega arith)

module _ (tested : Bool) (checks : Checks) where
  abbrev made : List (List ℕ) → Relocation → List (List ℕ)
  made ls m = set (set ls m.from (giver ls m)) m.to (receiver ls m)

  permits : (ls : List (List ℕ)) (m : Relocation) → Tried (relocate tested) checks ls m
      → (fits checks (receiver ls m) && giver_passes tested checks (giver ls m)) ≡ true → Relocated tested checks ls (made ls m)
  permits ls m tried p =
      let h = relocations_in ls m tried.move_in in
      let X = at ls m.from in
      let Y = at ls m.to in
      let both = and_parts (fits checks (receiver ls m)) (giver_passes tested checks (giver ls m)) p in
      relocated (get_or X m.position 0) (take m.position X) (drop (suc m.position) X) (take m.place Y) (drop m.place Y)
      (record {
        i = m.from;
        j = m.to;
        apart = λ e. h.2 (sym e);
        i_there = h.0;
        j_there = h.3;
        at_i = split_at X m.position 0 h.1;
        at_j = sym (take-append-drop m.place Y);
        becomes = refl;
      })
      (true-T (fits checks (receiver ls m)) both.0) (true-T (giver_passes tested checks (giver ls m)) both.1)

  covers : (ls ms : List (List ℕ)) → Relocated tested checks ls ms → Covered (relocate tested) checks ls ms
  covers ls ms (relocated v A B C D L p q) =
      let i = L.i in
      let j = L.j in
      let X = at ls i in
      let Y = at ls j in
      let a = length A in
      let b = length C in
      let m : Relocation = record { from = i; position = a; to = j; place = b } in
      let lAv : length (A ++ (v ∷ [])) ≡ suc a = rw length-append (omega arith) in
      let tB : drop (suc a) (A ++ v ∷ B) ≡ B = rw (← (append_snoc A v B)) (drop_at (A ++ (v ∷ [])) B (suc a) lAv) in
      let g : giver ls m ≡ A ++ B = rw (L.at_i, take-append_seam A (v ∷ B), tB) in
      let r : receiver ls m ≡ C ++ v ∷ D = rw (L.at_i, L.at_j, get_or-append_seam A v B 0, take-append_seam C D, drop-append_seam C D) in
      let lX : a < length X = rw (L.at_i, length-append) (omega arith) in
      let lY : b ≤ length Y = rw (L.at_j, length-append) (omega arith) in
      record {
        move = m;
        tried = record { place = tt; place_in = here; move_in = in_relocations ls i a j b L.i_there lX (λ e. L.apart (sym e)) L.j_there lY };
        passes = rw (g, r) (and_both (fits checks (C ++ v ∷ D)) (giver_passes tested checks (A ++ B)) (T_true (fits checks (C ++ v ∷ D)) p)
            (T_true (giver_passes tested checks (A ++ B)) q));
        is = rw (g, r) (sym L.becomes);
      }

  pub relocate_faithful : Faithful (relocate tested) checks
  relocate_faithful = record { permits = permits; covers = covers; places_stay = λ ls ms m. refl }
