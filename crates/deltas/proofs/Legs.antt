-- Whole legs make whole changes: what an engine works out in f64 is the whole number that its legs give, since no sum on the way is above 2^53.
-- Assumes nothing.
use mathlib.Core.Path.{refl}
use mathlib.Core.Bool.{Bool, true, false}
use mathlib.Core.List.{List, [], ◌∷◌}
use Prim.Native.Nat.{ℕ, ◌+◌, ◌*◌, ◌^◌, ◌≤◌, ◌<◌}
use native.Mathlib.Nat.{mul-suc}
use native.Mathlib.Omega.{arith}
use lib.Dec.{T}
use lib.ListN.{length}
use lib.Ieee.{Float}
use Rattle.numbers.specs.Operations.{◌⊕◌, ◌⊖◌, zero64}
use Rattle.numbers.specs.Value.{Whole, is_whole, nat_of}
use Rattle.numbers.proofs.Whole.{add_whole, sub_whole, shift_whole, nat_of_whole, nat_of-le}
use Rattle.descent.specs.Sum.{walk}
use Rattle.descent.proofs.Walk.{inside, back}
use Rattle.descent.proofs.Gains.{way}
use Rattle.descent.proofs.Below.{Below, over_none}
use Rattle.deltas.specs.Changes.{Placed, turned_legs, reversal_delta, turn_change, detour, removal_cost, fixed_if, tails_change, turned_if, plus_if, through}
use Rattle.deltas.specs.Changes.{through_if, pattern_change}
use Rattle.deltas.specs.declared.Ends.{Ends}
use Rattle.deltas.proofs.Stops.{turned_placed}

pub zero_whole : Whole zero64 0 0
zero_whole = record { is_finite = tt; at = refl }

module _ (l : ℕ) (d : ℕ → ℕ → Float) (whole : (a b : ℕ) → a < l → b < l → T (is_whole 16777216 (d a b))) where
  -- a leg as a natural number
  abbrev pub D : ℕ → ℕ → ℕ
  D a b = nat_of (d a b)

  pub leg_whole : (a b : ℕ) → a < l → b < l → Whole (d a b) (D a b) 0
  leg_whole a b p q = nat_of_whole 16777216 (d a b) (whole a b p q)

  pub leg_le : (a b : ℕ) → a < l → b < l → D a b ≤ 16777216
  leg_le a b p q = nat_of-le 16777216 (d a b) (whole a b p q)

  -- ---- a piece turned round

  -- from a sum that is p - n, with k a bound of both
  turned_whole : (s : Float) (p n k x : ℕ) (ys : List ℕ) → Whole s p n → p ≤ k → n ≤ k → k + 16777216 * length ys ≤ 2 ^ 52 → x < l → Below l ys
      → Whole (turned_legs d s x ys) (p + walk (back D) x ys) (n + walk D x ys)
  unfolding turned_legs
  turned_whole s p n k x [] w hp hn hk hx b = shift_whole (p + 0) (n + 0) w (omega arith)
  turned_whole s p n k x (y ∷ ys) w hp hn hk hx b =
      let hy = over_none l y (omega arith) in
      let u = leg_le y x hy hx in
      let v = leg_le x y hx hy in
      let t = sub_whole (leg_whole y x hy hx) (leg_whole x y hx hy) (omega arith) (omega arith) in
      let a = add_whole w t (omega arith) (omega arith) in
      let z = mul-suc 16777216 (length ys) in
      let r = turned_whole (s ⊕ (d y x ⊖ d x y)) (p + (D y x + 0)) (n + (0 + D x y)) (k + 16777216) y ys a (omega arith) (omega arith) (omega arith) hy (omega arith) in
      shift_whole (p + (D y x + walk (back D) y ys)) (n + (D x y + walk D y ys)) r (omega arith)

  pub reversal_whole : (xs : List ℕ) → length xs ≤ 1008 → Below l xs → Whole (reversal_delta d xs) (inside (back D) xs) (inside D xs)
  unfolding reversal_delta
  reversal_whole [] h b = zero_whole
  reversal_whole (x ∷ xs) h b =
      let r = turned_whole zero64 0 0 0 x xs zero_whole (omega arith) (omega arith) (omega arith) (over_none l x (omega arith)) (omega arith) in
      shift_whole (walk (back D) x xs) (walk D x xs) r (omega arith)

  walk_le : (x : ℕ) (ys : List ℕ) → x < l → Below l ys → (walk D x ys ≤ 16777216 * length ys) × (walk (back D) x ys ≤ 16777216 * length ys)
  walk_le x [] hx b = (omega arith, omega arith)
  walk_le x (y ∷ ys) hx b =
      let hy = over_none l y (omega arith) in
      let ih = walk_le y ys hy (omega arith) in
      let u = leg_le y x hy hx in
      let v = leg_le x y hx hy in
      let i₀ = ih.0 in
      let i₁ = ih.1 in
      (omega arith, omega arith)

  -- the legs inside a piece, either way
  inside_le : (xs : List ℕ) → length xs ≤ 1008 → Below l xs → (inside D xs ≤ 2 ^ 35) × (inside (back D) xs ≤ 2 ^ 35)
  inside_le [] h b = (omega arith, omega arith)
  inside_le (x ∷ xs) h b =
      let w = walk_le x xs (over_none l x (omega arith)) (omega arith) in
      let w₀ = w.0 in
      let w₁ = w.1 in
      (omega arith, omega arith)

  -- ---- sums of legs

  two_legs : (a b x y : ℕ) → a < l → b < l → x < l → y < l → Whole (d a b ⊕ d x y) (D a b + D x y) 0
  two_legs a b x y ha hb hx hy =
      let u = leg_le a b ha hb in
      let v = leg_le x y hx hy in
      add_whole (leg_whole a b ha hb) (leg_whole x y hx hy) (omega arith) (omega arith)

  pub turn_whole : (e p : Ends) (xs : List ℕ) → Placed l e → Placed l p → length xs ≤ 1008 → Below l xs
      → Whole (turn_change d e p (reversal_delta d xs)) (D e.from p.to + D p.from e.to + inside (back D) xs)
      (D e.from p.from + D p.to e.to + inside D xs)
  unfolding turn_change
  turn_whole e p xs he hp short below =
      let ef = he.from_there in let et = he.to_there in let pf = hp.from_there in let pt = hp.to_there in
      let a = leg_le e.from p.to ef pt in
      let b = leg_le p.from e.to pf et in
      let f = leg_le e.from p.from ef pf in
      let g = leg_le p.to e.to pt et in
      let i = inside_le xs short below in
      let i₀ = i.0 in
      let i₁ = i.1 in
      let new = two_legs e.from p.to p.from e.to ef pt pf et in
      let old = two_legs e.from p.from p.to e.to ef pf pt et in
      let less = sub_whole new old (omega arith) (omega arith) in
      let all = add_whole less (reversal_whole xs short below) (omega arith) (omega arith) in
      shift_whole _ _ all (omega arith)

  pub tails_whole : (e f : Ends) → Placed l e → Placed l f
      → Whole (tails_change d e f) (D e.from f.to + D f.from e.to) (D e.from e.to + D f.from f.to)
  unfolding tails_change
  tails_whole e f he hf =
      let ef = he.from_there in let et = he.to_there in let ff = hf.from_there in let ft = hf.to_there in
      let a = leg_le e.from f.to ef ft in
      let b = leg_le f.from e.to ff et in
      let g = leg_le e.from e.to ef et in
      let h = leg_le f.from f.to ff ft in
      let all = sub_whole (two_legs e.from f.to f.from e.to ef ft ff et) (two_legs e.from e.to f.from f.to ef et ff ft)
      (omega arith) (omega arith) in
      shift_whole _ _ all (omega arith)

  pub detour_whole : (e p : Ends) → Placed l e → Placed l p
      → Whole (detour d e p) (D e.from p.from + D p.to e.to) (D e.from e.to)
  unfolding detour
  detour_whole e p he hp =
      let ef = he.from_there in let et = he.to_there in let pf = hp.from_there in let pt = hp.to_there in
      let a = leg_le e.from p.from ef pf in
      let b = leg_le p.to e.to pt et in
      let c = leg_le e.from e.to ef et in
      let all = sub_whole (two_legs e.from p.from p.to e.to ef pf pt et) (leg_whole e.from e.to ef et) (omega arith) (omega arith) in
      shift_whole _ _ all (omega arith)

  pub detours_whole : (e p f q : Ends) → Placed l e → Placed l p → Placed l f → Placed l q
      → Whole (detour d e p ⊖ detour d f q) (D e.from p.from + D p.to e.to + D f.from f.to)
      (D e.from e.to + (D f.from q.from + D q.to f.to))
  detours_whole e p f q he hp hf hq =
      let ef = he.from_there in let et = he.to_there in let pf = hp.from_there in let pt = hp.to_there in
      let ff = hf.from_there in let ft = hf.to_there in let qf = hq.from_there in let qt = hq.to_there in
      let a = leg_le e.from p.from ef pf in
      let b = leg_le p.to e.to pt et in
      let c = leg_le e.from e.to ef et in
      let g = leg_le f.from q.from ff qf in
      let h = leg_le q.to f.to qt ft in
      let i = leg_le f.from f.to ff ft in
      sub_whole (detour_whole e p he hp) (detour_whole f q hf hq) (omega arith) (omega arith)

  removal_whole : (e : Ends) (v : ℕ) → Placed l e → v < l → Whole (removal_cost d e v) (D e.from e.to) (D e.from v + D v e.to)
  unfolding removal_cost
  removal_whole e v he hv =
      let ef = he.from_there in let et = he.to_there in
      let a = leg_le e.from e.to ef et in
      let b = leg_le e.from v ef hv in
      let c = leg_le v e.to hv et in
      let one = sub_whole (leg_whole e.from e.to ef et) (leg_whole e.from v ef hv) (omega arith) (omega arith) in
      let all = sub_whole one (leg_whole v e.to hv et) (omega arith) (omega arith) in
      shift_whole _ _ all (omega arith)

  -- ---- two pieces rearranged

  -- the three legs as a number
  abbrev pub through_number : Ends → Ends → Ends → ℕ
  through_number e p q = D e.from p.from + D p.to q.from + D q.to e.to

  abbrev pub through_number_if : Bool → Ends → Ends → Ends → ℕ
  through_number_if false e p q = through_number e p q
  through_number_if true e p q = through_number e q p

  through_whole : (e p q : Ends) → Placed l e → Placed l p → Placed l q → Whole (through d e p q) (through_number e p q) 0 × (through_number e p q ≤ 50331648)
  unfolding through
  through_whole e p q he hp hq =
      let ef = he.from_there in let et = he.to_there in let pf = hp.from_there in let pt = hp.to_there in
      let qf = hq.from_there in let qt = hq.to_there in
      let a = leg_le e.from p.from ef pf in
      let b = leg_le p.to q.from pt qf in
      let c = leg_le q.to e.to qt et in
      (add_whole (two_legs e.from p.from p.to q.from ef pf pt qf) (leg_whole q.to e.to qt et) (omega arith) (omega arith), omega arith)

  through_if_whole : (s : Bool) (e p q : Ends) → Placed l e → Placed l p → Placed l q
      → Whole (through_if d s e p q) (through_number_if s e p q) 0 × (through_number_if s e p q ≤ 50331648)
  unfolding through_if
  through_if_whole false e p q he hp hq = through_whole e p q he hp hq
  through_if_whole true e p q he hp hq = through_whole e q p he hq hp

  -- a piece turned or not: the legs inside it, put in as they are then driven, and taken out as they were
  plus_whole : (b : Bool) (x : Float) (p q : ℕ) (xs : List ℕ) → Whole x p q → p ≤ 2 ^ 40 → q ≤ 2 ^ 40 → length xs ≤ 1008 → Below l xs
      → Whole (plus_if b x (reversal_delta d xs)) (p + inside (way b D) xs) (q + inside D xs) × (inside (way b D) xs ≤ 2 ^ 35) × (inside D xs ≤ 2 ^ 35)
  unfolding plus_if
  plus_whole false x p q xs w hp hq short below =
      let i = inside_le xs short below in (shift_whole (p + inside D xs) (q + inside D xs) w (omega arith), i.0, i.0)
  plus_whole true x p q xs w hp hq short below =
      let i = inside_le xs short below in
      let i₀ = i.0 in
      let i₁ = i.1 in
      (add_whole w (reversal_whole xs short below) (omega arith) (omega arith), i₁, i₀)

  pub pattern_whole : (s b c : Bool) (e p q : Ends) (B C : List ℕ) → Placed l e → Placed l p → Placed l q
      → length B ≤ 1008 → Below l B → length C ≤ 1008 → Below l C
      → Whole (pattern_change d (record { around = e; b = p; c = q; b_inside = reversal_delta d B; c_inside = reversal_delta d C }) s b c)
      (through_number_if s e (turned_if b p) (turned_if c q) + inside (way b D) B + inside (way c D) C)
      (through_number e p q + inside D B + inside D C)
  unfolding pattern_change
  pattern_whole s b c e p q B C he hp hq sB lB sC lC =
      let new = through_if_whole s e (turned_if b p) (turned_if c q) he (turned_placed l b p hp) (turned_placed l c q hq) in
      let n₁ = new.1 in
      let old = through_whole e p q he hp hq in
      let o₁ = old.1 in
      let with-b = plus_whole b _ (through_number_if s e (turned_if b p) (turned_if c q)) 0 B new.0 (omega arith) (omega arith) sB lB in
      let b₁ = with-b.1 in
      let b₂ = with-b.2 in
      let with-c = plus_whole c _ (through_number_if s e (turned_if b p) (turned_if c q) + inside (way b D) B) (0 + inside D B) C with-b.0 (omega arith)
      (omega arith) sC lC in
      let c₁ = with-c.1 in
      let c₂ = with-c.2 in
      let all = sub_whole with-c.0 old.0 (omega arith) (omega arith) in
      shift_whole _ _ all (omega arith)

  -- ---- relocate, with the fixed cost

  module _ (fixed : Float) (fixed-whole : T (is_whole 16777216 fixed)) where
    -- the fixed cost as a number, where it counts
    abbrev pub paid : Bool → ℕ
    paid true = nat_of fixed
    paid false = 0

    paid_whole : (t : Bool) → Whole (fixed_if t fixed) (paid t) 0 × (paid t ≤ 16777216)
    unfolding fixed_if
    paid_whole true = (nat_of_whole 16777216 fixed fixed-whole, nat_of-le 16777216 fixed fixed-whole)
    paid_whole false = (zero_whole, omega arith)

    pub relocate_whole : (e f : Ends) (v : ℕ) (saved paid-there : Bool) → Placed l e → Placed l f → v < l
        → Whole ((removal_cost d e v ⊖ fixed_if saved fixed) ⊕ (detour d f (record { from = v; to = v }) ⊕ fixed_if paid-there fixed))
        (D e.from e.to + D f.from v + D v f.to + paid paid-there) (D e.from v + D v e.to + D f.from f.to + paid saved)
    relocate_whole e f v saved paid-there he hf hv =
        let ef = he.from_there in let et = he.to_there in let ff = hf.from_there in let ft = hf.to_there in
        let a = leg_le e.from e.to ef et in
        let b = leg_le e.from v ef hv in
        let c = leg_le v e.to hv et in
        let g = leg_le f.from v ff hv in
        let h = leg_le v f.to hv ft in
        let i = leg_le f.from f.to ff ft in
        let s = paid_whole saved in
        let s₁ = s.1 in
        let t = paid_whole paid-there in
        let t₁ = t.1 in
        let out = sub_whole (removal_whole e v he hv) s.0 (omega arith) (omega arith) in
        let put = add_whole (detour_whole f (record { from = v; to = v }) hf (record { from_there = hv; to_there = hv })) t.0 (omega arith) (omega arith) in
        let all = add_whole out put (omega arith) (omega arith) in
        shift_whole _ _ all (omega arith)
