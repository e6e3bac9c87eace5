-- The legs that each candidate takes out and puts in, as the Rust reads them by position, and the law that the sum changes by just these: what
-- a floating-point delta stands for. Needs the leg from the depot to itself to be 0.
use mathlib.Core.Path.{◌≡◌, refl, sym, ap, ◌∙◌}
use mathlib.Core.Logic.{◌≢◌, ◌⊎◌, inl, inr}
use mathlib.Core.Bool.{Bool, true, false, not}
use mathlib.Core.List.{List, [], ◌∷◌, ◌++◌, append-nil}
use Prim.Native.Nat.{ℕ, suc, ◌+◌, ◌≤◌, ◌<◌}
use native.Mathlib.Omega.{arith}
use borrow.Author.Tests.{ltb-true, ltb-false, lt-ltb, le-ltb}
use lib.Dec.{ltb}
use lib.ListN.{length, get_or, set, take, drop, take-append-drop}
use lib.Seq.{slice, length-slice, length-take-le, split_at}
use Rattle.descent.specs.Order.{◌∈◌}
use Rattle.descent.specs.Sum.{Roads, price, cost}
use Rattle.descent.specs.Permitted.{Checks, seven, turn, in_order, Changed, Engine, two_opt, three_opt, or_opt, tail_exchange, relocate, State, lists}
use Rattle.descent.specs.Search.{Judge}
use Rattle.descent.specs.Within.{Reversal, turned, Piece, put_before_lem, Reconnection, reconnect}
use Rattle.descent.specs.Across.{at, Tails, new1, new2, Relocation, giver, receiver}
use Rattle.descent.specs.Engines.{Move, engine_search, run_of}
use Rattle.descent.specs.Claim.{Claim, handed}
use Rattle.descent.proofs.Members.{in_cons, not_in, map_in}
use Rattle.descent.proofs.Cuts.{cut, cut4}
use Rattle.descent.proofs.Walk.{first, end, inside, back, flat, joins}
use Rattle.descent.proofs.Ends.{end_at, first_at, first-slice, end-slice, end-slice_at}
use Rattle.descent.proofs.Gains.{way, tip, laid, joins_kept, joins_swapped, joins_two}
use Rattle.descent.proofs.Costs.{spared, turned_price, swapped_price, laid-price, tails_cost, relocate-cost}
use Rattle.descent.proofs.Kept.{Kept}
use Rattle.descent.proofs.Claims.{Tried, Exact}
use Rattle.descent.proofs.Demand3.{Proper, demand_3}
use Rattle.descent.proofs.TwoOpt.{reversals_in}
use Rattle.descent.proofs.ThreeOpt.{cuts_in}
use Rattle.descent.proofs.OrOpt.{Positioned, pieces_in, sizes_in}
use Rattle.descent.proofs.TailExchange.{pairs_in, tail_cuts_in}
use Rattle.descent.proofs.Relocate.{relocations_in}

-- ---- definitions

pub record Legs : Type 0 where
  pub out : ℕ
  pub put : ℕ

-- the one or, where a piece is turned, the other
abbrev pub pick : Bool → ℕ → ℕ → ℕ
pick false a b = a
pick true a b = b

module _ (roads : Roads) where
  -- the stop at position i, the depot behind the last; and the stop before it, the depot before the first
  abbrev pub stop : List ℕ → ℕ → ℕ
  stop xs i = get_or xs i roads.depot

  abbrev pub before : List ℕ → ℕ → ℕ
  before xs i = get_or (roads.depot ∷ xs) i roads.depot

  -- `two_opt_delta` and `reversal_delta`
  abbrev pub two_opt_legs : List ℕ → Reversal → Legs
  two_opt_legs xs r =
      let d = roads.distance in
      let B = slice r.first (suc r.last) xs in
      record {
        out = d (before xs r.first) (stop xs r.first) + d (stop xs r.last) (stop xs (suc r.last)) + inside d B;
        put = d (before xs r.first) (stop xs r.last) + d (stop xs r.first) (stop xs (suc r.last)) + inside (back d) B;
      }

  -- `try_or_opt_pass`: `removal_gain` and `insertion_cost`
  abbrev pub or_opt_legs : List ℕ → Piece → Legs
  or_opt_legs xs p =
      let d = roads.distance in
      let behind = p.from + p.size in
      record {
        out = d (before xs p.from) (stop xs p.from) + d (before xs behind) (stop xs behind) + d (before xs p.to) (stop xs p.to);
        put = d (before xs p.from) (stop xs behind) + d (before xs p.to) (stop xs p.from) + d (before xs behind) (stop xs p.to);
      }

  -- `try_three_opt_move`: `old_cost` and `cost1` to `cost7`
  abbrev pub between : Bool → ℕ → ℕ → ℕ → ℕ → ℕ → ℕ → ℕ
  between false a b-in b-out c-in c_out e = roads.distance a b-in + roads.distance b-out c-in + roads.distance c_out e
  between true a b-in b-out c-in c_out e = roads.distance a c-in + roads.distance c_out b-in + roads.distance b-out e

  abbrev pub three_opt_legs : List ℕ → Reconnection → Legs
  three_opt_legs xs r =
      let d = roads.distance in
      let i = r.cut.i in let j = r.cut.j in let k = r.cut.k in
      let B = slice (suc i) (suc j) xs in
      let C = slice (suc j) (suc k) xs in
      let b = r.way.1 in
      let c = r.way.2 in
      record {
        out = between false (stop xs i) (stop xs (suc i)) (stop xs j) (stop xs (suc j)) (stop xs k) (stop xs (suc k)) + inside d B + inside d C;
        put = between r.way.0 (stop xs i) (pick b (stop xs (suc i)) (stop xs j)) (pick b (stop xs j) (stop xs (suc i)))
            (pick c (stop xs (suc j)) (stop xs k)) (pick c (stop xs k) (stop xs (suc j))) (stop xs (suc k)) + inside (way b d) B + inside (way c d) C;
      }

  -- `find_best_exchange`: `old_edge1` to `new_edge2`
  abbrev pub tail_legs : List (List ℕ) → Tails → Legs
  tail_legs ls t =
      let d = roads.distance in
      let X = at ls t.pair.one in
      let Y = at ls t.pair.other in
      record {
        out = d (before X t.cut1) (stop X t.cut1) + d (before Y t.cut2) (stop Y t.cut2);
        put = d (before X t.cut1) (stop Y t.cut2) + d (before Y t.cut2) (stop X t.cut1);
      }

  -- `removal_cost` and `insertion_cost`, with the fixed cost of a list that is emptied or was empty
  abbrev pub relocate_legs : List (List ℕ) → Relocation → Legs
  relocate_legs ls m =
      let d = roads.distance in
      let X = at ls m.from in
      let Y = at ls m.to in
      let v = get_or X m.position 0 in
      record {
        out = d (before X m.position) v + d v (stop X (suc m.position)) + d (before Y m.place) (stop Y m.place) + spared roads (giver ls m);
        put = d (before X m.position) (stop X (suc m.position)) + d (before Y m.place) v + d v (stop Y m.place) + spared roads Y;
      }

  abbrev pub legs_of : (e : Engine) → State e → Move e → Legs
  legs_of two_opt = two_opt_legs
  legs_of three_opt = three_opt_legs
  legs_of (or_opt last) = or_opt_legs
  legs_of tail_exchange = tail_legs
  legs_of (relocate tested) = relocate_legs

  -- judged by its legs: a candidate counts where less is put in than taken out
  abbrev pub by_legs : (e : Engine) → Judge (State e) (Move e) Legs
  by_legs e = record { delta = legs_of e; counts = λ l. ltb l.put l.out; less = λ l k. ltb (l.put + k.out) (k.put + l.out) }

-- ---- laws

flat-laid : (s b c : Bool) (B C : List ℕ) → flat (laid s b c B C) ≡ in_order s (turn b B) (turn c C)
flat-laid false b c B C = rw append-nil
flat-laid true b c B C = rw append-nil

in_list : (last : ℕ → ℕ → ℕ) (n size from to : ℕ) → last n size ≤ n → Positioned last n size from to → (to < from) ⊎ ((from + size < to) × (to ≤ n))
in_list last n size from to h (inl l) = inl l
in_list last n size from to h (inr l) = let k = l.1 in inr (l.0, omega arith)

module _ (roads : Roads) (home : roads.distance roads.depot roads.depot ≡ 0) where
  two_opt_law : (xs : List ℕ) (r : Reversal) → r.first < r.last → r.last < length xs
      → price roads (turned xs r) + (two_opt_legs roads xs r).out ≡ price roads xs + (two_opt_legs roads xs r).put
  two_opt_law xs r ij jn =
      let z = roads.depot in
      let i = r.first in
      let j = r.last in
      let A = take i xs in
      let B = slice i (suc j) xs in
      let C = drop (suc j) xs in
      let l = length-slice i (suc j) xs jn in
      let eA : end z A ≡ before roads xs i = end_at z xs i (omega arith) in
      let fB : first z B ≡ stop roads xs i = first-slice z z xs i (suc j) (omega arith) jn in
      let eB : end z B ≡ stop roads xs j = end-slice z z xs i j (omega arith) jn in
      let fC : first z C ≡ stop roads xs (suc j) = first_at z xs (suc j) in
      rw (eA, fB, eB, fC, cut xs i (suc j) (omega arith)) at (turned_price roads home A B C (omega arith))

  -- two neighbouring stretches exchanged, by the positions where they are cut
  exchange_law : (xs : List ℕ) (i j e : ℕ) → i < j → j < e → e ≤ length xs
      → let d = roads.distance in
      price roads (take i xs ++ slice j e xs ++ slice i j xs ++ drop e xs) +
      (d (before roads xs i) (stop roads xs i) + d (before roads xs j) (stop roads xs j) + d (before roads xs e) (stop roads xs e))
      ≡ price roads xs + (d (before roads xs i) (stop roads xs j) + d (before roads xs e) (stop roads xs i) + d (before roads xs j) (stop roads xs e))
  exchange_law xs i j e ij je en =
      let z = roads.depot in
      let A = take i xs in
      let B = slice i j xs in
      let C = slice j e xs in
      let D = drop e xs in
      let lB = length-slice i j xs (omega arith) in
      let lC = length-slice j e xs en in
      let eA : end z A ≡ before roads xs i = end_at z xs i (omega arith) in
      let fB : first z B ≡ stop roads xs i = first-slice z z xs i j ij (omega arith) in
      let eB : end z B ≡ before roads xs j = end-slice_at z xs i j ij (omega arith) in
      let fC : first z C ≡ stop roads xs j = first-slice z z xs j e je en in
      let eC : end z C ≡ before roads xs e = end-slice_at z xs j e je en in
      let fD : first z D ≡ stop roads xs e = first_at z xs e in
      rw (eA, fB, eB, fC, eC, fD, cut4 xs i j e (omega arith) (omega arith)) at (swapped_price roads home A B C D (omega arith) (omega arith))

  or_opt_law : (xs : List ℕ) (p : Piece) → 1 ≤ p.size → p.from + p.size ≤ length xs → (p.to < p.from) ⊎ ((p.from + p.size < p.to) × (p.to ≤ length xs))
      → price roads (put_before_lem xs p) + (or_opt_legs roads xs p).out ≡ price roads xs + (or_opt_legs roads xs p).put
  or_opt_law xs p h₁ h (inl l) =
      let q : ltb p.to p.from ≡ true = lt-ltb p.to p.from l in
      let law = exchange_law xs p.to p.from (p.from + p.size) l (omega arith) h in
      rw (q, put_before_lem) (omega arith)
  or_opt_law xs p h₁ h (inr l) =
      let l₁ = l.0 in
      let q : ltb p.to p.from ≡ false = le-ltb p.to p.from (omega arith) in
      let law = exchange_law xs p.from (p.from + p.size) p.to (omega arith) l₁ l.1 in
      rw (q, put_before_lem) (omega arith)

  tips : (b : Bool) (P : List ℕ) (s t : ℕ) → first roads.depot P ≡ s → end roads.depot P ≡ t
      → (tip b roads.depot P ≡ pick b s t) × (tip (not b) roads.depot P ≡ pick b t s)
  tips false P s t e f = (e, f)
  tips true P s t e f = (f, e)

  put_legs : (s : Bool) (a n : ℕ) (b c : Bool) (B C : List ℕ) → 1 ≤ length B → 1 ≤ length C
      → let z = roads.depot in
      joins roads.distance a (laid s b c B C) n ≡ between roads s a (tip b z B) (tip (not b) z B) (tip c z C) (tip (not c) z C) n
  put_legs false a n b c B C hB hC = let l = joins_kept roads.distance roads.depot a b c B C n hB hC in omega arith
  put_legs true a n b c B C hB hC = let l = joins_swapped roads.distance roads.depot a b c B C n hB hC in omega arith

  three_opt_law : (xs : List ℕ) (r : Reconnection) → r.cut.i < r.cut.j → r.cut.j < r.cut.k → r.cut.k < length xs
      → price roads (reconnect xs r) + (three_opt_legs roads xs r).out ≡ price roads xs + (three_opt_legs roads xs r).put
  three_opt_law xs r ij jk kn =
      let z = roads.depot in
      let d = roads.distance in
      let i = r.cut.i in let j = r.cut.j in let k = r.cut.k in
      let s = r.way.0 in let b = r.way.1 in let c = r.way.2 in
      let A = take (suc i) xs in
      let B = slice (suc i) (suc j) xs in
      let C = slice (suc j) (suc k) xs in
      let D = drop (suc k) xs in
      let lB = length-slice (suc i) (suc j) xs (omega arith) in
      let lC = length-slice (suc j) (suc k) xs kn in
      let hB : 1 ≤ length B = omega arith in
      let hC : 1 ≤ length C = omega arith in
      let eA : end z A ≡ stop roads xs i = end_at z xs (suc i) (omega arith) in
      let fB : first z B ≡ stop roads xs (suc i) = first-slice z z xs (suc i) (suc j) (omega arith) (omega arith) in
      let eB : end z B ≡ stop roads xs j = end-slice z z xs (suc i) j (omega arith) (omega arith) in
      let fC : first z C ≡ stop roads xs (suc j) = first-slice z z xs (suc j) (suc k) (omega arith) kn in
      let eC : end z C ≡ stop roads xs k = end-slice z z xs (suc j) k (omega arith) kn in
      let fD : first z D ≡ stop roads xs (suc k) = first_at z xs (suc k) in
      let tB = tips b B (stop roads xs (suc i)) (stop roads xs j) fB eB in
      let tC = tips c C (stop roads xs (suc j)) (stop roads xs k) fC eC in
      let was = cut4 xs (suc i) (suc j) (suc k) (omega arith) (omega arith) in
      let is : A ++ flat (laid s b c B C) ++ D ≡ reconnect xs r = rw (flat-laid s b c B C) in
      let law = rw (eA, fD) at (laid-price roads home s b c A B C D) in
      let old = rw (fB, eB, fC, eC) at (joins_two d z (stop roads xs i) B C (stop roads xs (suc k)) hB hC) in
      let new = rw (tB.0, tB.1, tC.0, tC.1) at (put_legs s (stop roads xs i) (stop roads xs (suc k)) b c B C hB hC) in
      omega (arith, law, old, new, ap (price roads) is, ap (price roads) was)

  tail_law : (ls : List (List ℕ)) (t : Tails) → t.pair.one < t.pair.other → t.pair.other < length ls
      → 1 ≤ t.cut1 → t.cut1 ≤ length (at ls t.pair.one) → 1 ≤ t.cut2 → t.cut2 ≤ length (at ls t.pair.other)
      → cost roads (set (set ls t.pair.one (new1 ls t)) t.pair.other (new2 ls t)) + (tail_legs roads ls t).out
      ≡ cost roads ls + (tail_legs roads ls t).put
  tail_law ls t lt jn h₁ h₂ h₃ h₄ =
      let z = roads.depot in
      let X = at ls t.pair.one in
      let Y = at ls t.pair.other in
      let c = t.cut1 in
      let e = t.cut2 in
      let l₁ = length-take-le c X h₂ in
      let l₂ = length-take-le e Y h₄ in
      let lists : Changed (take c X ++ drop c X) (take e Y ++ drop e Y) (take c X ++ drop e Y) (take e Y ++ drop c X) ls
      (set (set ls t.pair.one (new1 ls t)) t.pair.other (new2 ls t)) = record {
        i = t.pair.one;
        j = t.pair.other;
        apart = λ q. omega arith;
        i_there = omega arith;
        j_there = jn;
        at_i = sym (take-append-drop c X);
        at_j = sym (take-append-drop e Y);
        becomes = refl;
      } in
      rw (end_at z X c h₂, end_at z Y e h₄, first_at z X c, first_at z Y e) at
      (tails_cost roads home (take c X) (drop c X) (take e Y) (drop e Y) ls (set (set ls t.pair.one (new1 ls t)) t.pair.other (new2 ls t))
      (omega arith) (omega arith) lists)

  relocate_law : (ls : List (List ℕ)) (m : Relocation) → m.from < length ls → m.position < length (at ls m.from) → m.to ≢ m.from → m.to < length ls
      → m.place ≤ length (at ls m.to)
      → cost roads (set (set ls m.from (giver ls m)) m.to (receiver ls m)) + (relocate_legs roads ls m).out ≡ cost roads ls + (relocate_legs roads ls m).put
  relocate_law ls m h₁ h₂ ne h₃ h₄ =
      let z = roads.depot in
      let X = at ls m.from in
      let Y = at ls m.to in
      let a = m.position in
      let b = m.place in
      let v = get_or X a 0 in
      let ms = set (set ls m.from (giver ls m)) m.to (receiver ls m) in
      let lists : Changed (take a X ++ v ∷ drop (suc a) X) (take b Y ++ drop b Y) (giver ls m) (receiver ls m) ls ms = record {
        i = m.from;
        j = m.to;
        apart = λ e. ne (sym e);
        i_there = h₁;
        j_there = h₃;
        at_i = split_at X a 0 h₂;
        at_j = sym (take-append-drop b Y);
        becomes = refl;
      } in
      rw (end_at z X a (omega arith), end_at z Y b h₄, first_at z X (suc a), first_at z Y b, take-append-drop b Y) at
      (relocate-cost roads home v (take a X) (drop (suc a) X) (take b Y) (drop b Y) ls ms lists)

  -- THE LAW OF GAINS, over every engine: the new sum and the legs taken out are the old sum and the legs put in
  pub legs_law : (e : Engine) (checks : Checks) → Proper e → (x : State e) (m : Move e) → Tried e checks x m
      → cost roads (lists e ((engine_search e checks).made x m)) + (legs_of roads e x m).out ≡ cost roads (lists e x) + (legs_of roads e x m).put
  legs_law two_opt checks proper x m tried = go (in_cons tried.place [] m tried.move_in)
    where
      go : (m ≡ tried.place) ⊎ (m ∈ [])
          → cost roads (turned x m ∷ []) + (two_opt_legs roads x m).out ≡ cost roads (x ∷ []) + (two_opt_legs roads x m).put
      go (inl q) = let b = reversals_in (length x) m (rw q tried.place_in) in let law = two_opt_law x m b.0 b.1 in omega arith
      go (inr h) = not_in h
  legs_law three_opt checks proper x m tried =
      let w = map_in (λ way. record { cut = tried.place; way = way }) seven m tried.move_in in
      let c = cuts_in (length x) tried.place tried.place_in in
      let e : tried.place ≡ m.cut = ap (λ (r : Reconnection). r.cut) w.2 in
      let law = three_opt_law x m (rw e at c.1) (rw e at c.2) (rw e at c.3) in
      omega arith
  legs_law (or_opt last) checks proper x m tried =
      let s = sizes_in tried.place tried.place_in in
      let q = pieces_in last proper (length x) tried.place m tried.move_in in
      let law = or_opt_law x m (rw q.0 s.0) (rw q.0 q.1) (rw q.0
      (in_list last (length x) tried.place m.from m.to (proper (length x) tried.place) q.2)) in
      omega arith
  legs_law tail_exchange checks proper x m tried =
      let a = pairs_in (length x) tried.place tried.place_in in
      let b = tail_cuts_in x tried.place m tried.move_in in
      tail_law x m (rw b.0 a.0) (rw b.0 a.1) b.1 (rw b.0 b.2) b.3 (rw b.0 b.4)
  legs_law (relocate tested) checks proper x m tried =
      let h = relocations_in x m tried.move_in in
      relocate_law x m h.0 h.1 h.2 h.3 h.4

  falls : (new out old put : ℕ) → new + out ≡ old + put → ltb put out ≡ ltb new old
  falls new out old put e = go (ltb new old) refl
    where
      go : (b : Bool) → ltb new old ≡ b → ltb put out ≡ b
      go true q = let l = ltb-true new old q in lt-ltb put out (omega arith)
      go false q = let l = ltb-false new old q in le-ltb put out (omega arith)

  pub legs_exact : (e : Engine) (checks : Checks) → Proper e → (lent : State e) → Exact e roads checks (by_legs roads e) lent
  legs_exact e checks proper lent x m kept tried =
      falls (cost roads (lists e ((engine_search e checks).made x m))) (legs_of roads e x m).out (cost roads (lists e x)) (legs_of roads e x m).put
      (legs_law e checks proper x m tried)

  -- demand 3 on whole numbers, with no further premise
  pub legs_demand_3 : (e : Engine) (checks : Checks) (lent : State e) (limit : ℕ) → Proper e
      → let r = run_of e checks (by_legs roads e) limit lent in
      Claim e roads checks limit lent r.last.now (handed e r.last.now) r.moves r.word
  legs_demand_3 e checks lent limit proper = demand_3 e roads checks (by_legs roads e) lent limit proper (legs_exact e checks proper lent)

  -- THE WAY TO FLOATS: a judging that counts a candidate exactly where less is put in than taken out is exact
  pub exact_by_legs : {Value : Type 0} (e : Engine) (checks : Checks) (judge : Judge (State e) (Move e) Value) (lent : State e) → Proper e
      → ((x : State e) (m : Move e) → Kept checks (lists e lent) (lists e x) → Tried e checks x m
      → judge.counts (judge.delta x m) ≡ ltb (legs_of roads e x m).put (legs_of roads e x m).out)
      → Exact e roads checks judge lent
  exact_by_legs e checks judge lent proper same x m kept tried = same x m kept tried ∙ legs_exact e checks proper lent x m kept tried
