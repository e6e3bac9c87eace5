-- On whole distances the float judge of each engine counts a candidate exactly where its legs put in less than they take out, since its delta is that
-- whole number and the floor is at most a half; so demand 3 holds of the run that it judges. Assumes nothing.
use mathlib.Core.Path.{◌≡◌, refl, sym, ◌∙◌}
use mathlib.Core.Bool.{Bool, true, false}
use mathlib.Core.List.{List, [], ◌∷◌, ◌++◌}
use Prim.Native.Nat.{ℕ, zero, suc, ◌+◌, ◌*◌, ◌≤◌, ◌<◌}
use native.Mathlib.Numerals.{add-one}
use native.Mathlib.Omega.{arith}
use borrow.Author.Tests.{eqb-true, eqb-false, eq-eqb, ne_eqb}
use lib.Dec.{T, ltb, eqb}
use lib.ListN.{length, get_or, take, drop, length-append, length-drop}
use lib.Seq.{slice, length-take-le}
use lib.Ieee.{Float, nan, eq}
use Rattle.numbers.specs.Operations.{zero64}
use Rattle.numbers.specs.Value.{Whole, is_whole, nat_of}
use Rattle.numbers.specs.Floor.{counts}
use Rattle.numbers.proofs.Order.{nought_is}
use Rattle.numbers.proofs.Whole.{shift_whole, eq_whole, every-at}
use Rattle.numbers.proofs.Floor.{table_gain}
use Rattle.day.specs.Matrix.{leg, scale_of, entry_below}
use Rattle.edits.specs.Total.{total, total_cong, total_one}
use Rattle.descent.specs.Permitted.{Checks, Engine, two_opt, three_opt, or_opt, tail_exchange, relocate, State, lists}
use Rattle.descent.specs.Within.{Reversal, Piece, Reconnection}
use Rattle.descent.specs.Across.{at, Tails, Relocation, giver}
use Rattle.descent.specs.Engines.{Move, run_of}
use Rattle.descent.specs.Claim.{Claim, handed}
use Rattle.descent.proofs.Members.{T_true}
use Rattle.descent.proofs.Costs.{spared}
use Rattle.descent.proofs.Legs.{legs_of, pick, between, two_opt_legs, three_opt_legs, or_opt_legs, tail_legs, relocate_legs, exact_by_legs}
use Rattle.descent.proofs.Below.{Below, AllBelow, below_of, below_at, kept_below}
use Rattle.descent.proofs.Claims.{Tried, Exact}
use Rattle.descent.proofs.Demand3.{Proper, demand_3}
use Rattle.descent.proofs.Relocate.{relocations_in}
use Rattle.deltas.specs.Changes.{turned_if}
use Rattle.deltas.specs.Deltas.{Listed, stop_at, stop_before, around, ends_of, two_opt_delta, removal_gain, piece_insertion, or_opt_delta, cut_at, three_opt_delta}
use Rattle.deltas.specs.Deltas.{exchange_delta, removal_delta, insertion_cost, insertion_delta, relocate_delta}
use Rattle.deltas.specs.Judged.{Map, distance_of, floor_of, delta_of, float_judge, roads_of, WholeMap, Lent}
use Rattle.deltas.specs.declared.Ends.{Ends}
use Rattle.deltas.proofs.Stops.{get_or_any, slice_below, slice_short, stop_there, around_placed, ends_placed}
use Rattle.deltas.proofs.Legs.{zero_whole, leg_whole, turn_whole, tails_whole, detours_whole, pattern_whole, through_number_if, relocate_whole, paid}

-- ---- the lists of a state

all_below_any : (l : ℕ) (ls : List (List ℕ)) (r : ℕ) → AllBelow l ls → Below l (get_or ls r [])
all_below_any l [] r b = refl
all_below_any l (xs ∷ ls) zero b = omega arith
all_below_any l (xs ∷ ls) (suc r) b = all_below_any l ls r (omega arith)

listed_of : (l depot : ℕ) (xs : List ℕ) → depot < l → Below l xs → Listed l depot xs
listed_of l depot xs home b = record { depot_there = home; visits = λ k h. below_at l xs k 0 b h }

all_below_of : (l : ℕ) (ls : List (List ℕ)) → ((r k : ℕ) → k < length (get_or ls r []) → get_or (get_or ls r []) k 0 < l) → AllBelow l ls
all_below_of l [] h = refl
all_below_of l (xs ∷ ls) h =
    let one = below_of l xs (h 0) in
    let rest = all_below_of l ls (λ r. h (suc r)) in
    omega arith

-- ---- each delta is the whole number that its legs give

module _ (map : Map) (ok : WholeMap map) where
  whole : (a b : ℕ) → a < map.l → b < map.l → T (is_whole 16777216 (distance_of map a b))
  unfolding leg
  whole a b p q = every-at (is_whole 16777216) map.distances (a * map.l + b) nan ok.distances (rw ok.square.size (entry_below map.l a b p q))

  two_opt_whole : (xs : List ℕ) (m : Reversal) → Below map.l xs → length xs ≤ 1008
      → Whole (delta_of two_opt map xs m) (two_opt_legs (roads_of map) xs m).put (two_opt_legs (roads_of map) xs m).out
  unfolding two_opt_delta around ends_of stop_at stop_before
  two_opt_whole xs m b short =
      let l = map.l in
      let z = map.depot in
      let listed = listed_of l z xs ok.depot_there b in
      let i = m.first in
      let e = suc m.last in
      rw (add-one m.last) (turn_whole l (distance_of map) whole (around z xs i e) (ends_of z xs i e) (slice i e xs)
      (around_placed l z xs listed i e) (ends_placed l z xs listed i e) (slice_short 1008 i e xs short) (slice_below l i e xs b))

  or_opt_whole : (xs : List ℕ) (m : Piece) → Below map.l xs
      → Whole (or_opt_delta (distance_of map) map.depot xs m.size m.from m.to) (or_opt_legs (roads_of map) xs m).put
      (or_opt_legs (roads_of map) xs m).out
  unfolding or_opt_delta piece_insertion removal_gain around ends_of stop_at stop_before
  or_opt_whole xs m b =
      let l = map.l in
      let z = map.depot in
      let listed = listed_of l z xs ok.depot_there b in
      let i = m.from in
      let e = m.from + m.size in
      let w = detours_whole l (distance_of map) whole (around z xs m.to m.to) (ends_of z xs i e) (around z xs i e) (ends_of z xs i e)
      (around_placed l z xs listed m.to m.to) (ends_placed l z xs listed i e) (around_placed l z xs listed i e) (ends_placed l z xs listed i e) in
      shift_whole _ _ w (omega arith)

  -- the legs of an arrangement, by the ends of its pieces
  picked : (b : Bool) (p : Ends) → ((turned_if b p).from ≡ pick b p.from p.to) × ((turned_if b p).to ≡ pick b p.to p.from)
  unfolding turned_if
  picked false p = (refl, refl)
  picked true p = (refl, refl)

  arranged_legs : (s b c : Bool) (e p q : Ends)
      → through_number_if map.l (distance_of map) whole s e (turned_if b p) (turned_if c q)
      ≡ between (roads_of map) s e.from (pick b p.from p.to) (pick b p.to p.from) (pick c q.from q.to) (pick c q.to q.from) e.to
  arranged_legs false b c e p q = rw ((picked b p).0, (picked b p).1, (picked c q).0, (picked c q).1)
  arranged_legs true b c e p q = rw ((picked b p).0, (picked b p).1, (picked c q).0, (picked c q).1)

  three_opt_whole : (xs : List ℕ) (m : Reconnection) → Below map.l xs → length xs ≤ 1008
      → Whole (delta_of three_opt map xs m) (three_opt_legs (roads_of map) xs m).put (three_opt_legs (roads_of map) xs m).out
  unfolding three_opt_delta cut_at around ends_of stop_at stop_before
  three_opt_whole xs m b short =
      let l = map.l in
      let z = map.depot in
      let listed = listed_of l z xs ok.depot_there b in
      let i = suc m.cut.i in
      let j = suc m.cut.j in
      let k = suc m.cut.k in
      let law = arranged_legs m.way.0 m.way.1 m.way.2 (around z xs i k) (ends_of z xs i j) (ends_of z xs j k) in
      let w = pattern_whole l (distance_of map) whole m.way.0 m.way.1 m.way.2 (around z xs i k) (ends_of z xs i j) (ends_of z xs j k)
      (slice i j xs) (slice j k xs) (around_placed l z xs listed i k) (ends_placed l z xs listed i j) (ends_placed l z xs listed j k)
      (slice_short 1008 i j xs short) (slice_below l i j xs b) (slice_short 1008 j k xs short) (slice_below l j k xs b) in
      rw (add-one m.cut.i, add-one m.cut.j, add-one m.cut.k) (shift_whole _ _ w (omega arith))

  tail_exchange_whole : (ls : List (List ℕ)) (m : Tails) → AllBelow map.l ls
      → Whole (delta_of tail_exchange map ls m) (tail_legs (roads_of map) ls m).put (tail_legs (roads_of map) ls m).out
  unfolding exchange_delta around stop_at stop_before
  tail_exchange_whole ls m b =
      let l = map.l in
      let z = map.depot in
      let X = at ls m.pair.one in
      let Y = at ls m.pair.other in
      let listedX = listed_of l z X ok.depot_there (all_below_any l ls m.pair.one b) in
      let listedY = listed_of l z Y ok.depot_there (all_below_any l ls m.pair.other b) in
      tails_whole l (distance_of map) whole (around z X m.cut1 m.cut1) (around z Y m.cut2 m.cut2)
      (around_placed l z X listedX m.cut1 m.cut1) (around_placed l z Y listedY m.cut2 m.cut2)

  -- the fixed cost that counts is that of a list that is left, or was, empty
  spared-paid : (xs : List ℕ) (t : Bool) → eqb (length xs) 0 ≡ t → spared (roads_of map) xs ≡ paid map.l (distance_of map) whole map.fixed ok.fixed t
  spared-paid [] true e = refl
  spared-paid (x ∷ xs) false e = refl
  spared-paid [] false e = absurd (eqb-false 0 0 e refl)
  spared-paid (x ∷ xs) true e = let h = eqb-true (suc (length xs)) 0 e in absurd (omega arith)

  one_less : (X : List ℕ) (a : ℕ) → a < length X → eqb (length (take a X ++ drop (suc a) X)) 0 ≡ eqb (length X) 1
  one_less X a h =
      let u = length-take-le a X (omega arith) in
      let v = length-drop (suc a) X in
      let l : suc (length (take a X ++ drop (suc a) X)) ≡ length X = rw length-append (omega arith) in
      go (length (take a X ++ drop (suc a) X)) (length X) l
    where
      go : (p q : ℕ) → suc p ≡ q → eqb p 0 ≡ eqb q 1
      go zero q e = sym (eq-eqb q 1 (sym e))
      go (suc p) q e = ne_eqb (suc p) 0 (λ h. omega arith) ∙ sym (ne_eqb q 1 (λ h. omega arith))

  relocate_legs_whole : (ls : List (List ℕ)) (m : Relocation) → AllBelow map.l ls → m.position < length (at ls m.from)
      → Whole (relocate_delta (distance_of map) map.depot map.fixed (at ls m.from) (at ls m.to) m.position m.place)
      (relocate_legs (roads_of map) ls m).put (relocate_legs (roads_of map) ls m).out
  unfolding relocate_delta removal_delta insertion_delta insertion_cost around stop_at stop_before
  relocate_legs_whole ls m b h =
      let l = map.l in
      let z = map.depot in
      let X = at ls m.from in
      let Y = at ls m.to in
      let a = m.position in
      let k = m.place in
      let listedX = listed_of l z X ok.depot_there (all_below_any l ls m.from b) in
      let listedY = listed_of l z Y ok.depot_there (all_below_any l ls m.to b) in
      let given = spared-paid (giver ls m) (eqb (length X) 1) (one_less X a h) in
      let taken = spared-paid Y (eqb (length Y) 0) refl in
      let v : stop_at z X a < l = stop_there l z X listedX a in
      let w = relocate_whole l (distance_of map) whole map.fixed ok.fixed (around z X a (suc a)) (around z Y k k) (stop_at z X a) (eqb (length X) 1)
      (eqb (length Y) 0)
      (around_placed l z X listedX a (suc a)) (around_placed l z Y listedY k k) v in
      rw (add-one a, given, taken, ← (get_or_any X a z 0 h)) w

  -- THE DELTA OF EVERY CANDIDATE, in whole numbers
  pub delta_whole : (e : Engine) (checks : Checks) (x : State e) (m : Move e) → Tried e checks x m → AllBelow map.l (lists e x)
      → total length (lists e x) ≤ 1008
      → Whole (delta_of e map x m) (legs_of (roads_of map) e x m).put (legs_of (roads_of map) e x m).out
  delta_whole two_opt checks x m tried b few = two_opt_whole x m (omega arith) (omega arith)
  delta_whole three_opt checks x m tried b few = three_opt_whole x m (omega arith) (omega arith)
  delta_whole (or_opt last) checks x m tried b few = or_opt_whole x m (omega arith)
  delta_whole tail_exchange checks x m tried b few = tail_exchange_whole x m b
  delta_whole (relocate tested) checks x m tried b few = relocate_legs_whole x m b (relocations_in x m tried.move_in).1

  -- ---- the judge

  counts_whole : {delta : Float} {p n : ℕ} → Whole delta p n → counts delta (floor_of map) ≡ ltb p n
  unfolding scale_of
  counts_whole w = rw (← nought_is) (table_gain map.distances ok.distances w)

  home-zero : nat_of (distance_of map map.depot map.depot) ≡ 0
  home-zero =
      let z = map.depot in
      let there = ok.depot_there in
      let w = nat_of_of z z there there in
      let t = eqb-true (nat_of (distance_of map z z) + 0) (0 + 0) (sym (eq_whole w zero_whole) ∙ T_true (eq (distance_of map z z) zero64) ok.home) in
      omega arith
    where
      nat_of_of : (a b : ℕ) → a < map.l → b < map.l → Whole (distance_of map a b) (nat_of (distance_of map a b)) 0
      nat_of_of a b p q = leg_whole map.l (distance_of map) whole a b p q

  pub float_exact : (e : Engine) (checks : Checks) → Proper e → (lent : State e) → Lent map.l (lists e lent)
      → Exact e (roads_of map) checks (float_judge e map) lent
  float_exact e checks proper lent there =
      exact_by_legs (roads_of map) home-zero e checks (float_judge e map) lent proper (λ x m kept tried.
      let below = kept_below checks map.l (lists e lent) (lists e x) kept (all_below_of map.l (lists e lent) there.visit_there) in
      let same = kept.sums (λ v. 1) in
      let was = total_cong (total (λ v. 1)) length (lists e lent) total_one in
      let is = total_cong (total (λ v. 1)) length (lists e x) total_one in
      let few = there.few in
      counts_whole (delta_whole e checks x m tried below (omega arith)))

  -- DEMAND 3 of the program's own judging: on whole distances, whatever else the day and the van have
  pub float_demand_3 : (e : Engine) (checks : Checks) (limit : ℕ) (lent : State e) → Proper e → Lent map.l (lists e lent)
      → let r = run_of e checks (float_judge e map) limit lent in
      Claim e (roads_of map) checks limit lent r.last.now (handed e r.last.now) r.moves r.word
  float_demand_3 e checks limit lent proper there =
      demand_3 e (roads_of map) checks (float_judge e map) lent limit proper (float_exact e checks proper lent there)
