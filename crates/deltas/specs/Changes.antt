-- What a move changes in the legs that are driven, in f64 and in the order of the Rust's operations: stops only, no positions. `d` is the distance from
-- a stop to a stop. For the deltas (Deltas.antt) and for the leaves of src/. Assumes nothing.
use Rattle.std.specs.Prelude.{Bool, true, false, List, [], ◌∷◌, ℕ, ◌<◌, Float}
use Rattle.numbers.specs.Operations.{◌⊕◌, ◌⊖◌, zero64}
use Rattle.deltas.specs.declared.Ends.{Ends}
use Rattle.deltas.specs.declared.Cut.{Cut}

-- both ends are locations: for what the leaves ask
pub record Placed (l : ℕ) (e : Ends) : Type 0 where
  pub from_there : e.from < l
  pub to_there : e.to < l

-- ---- a piece turned round

-- `reversal_delta`: of each leg 'the backward length minus the forward one', added to a sum; x is the visit before the rest of the piece
unfoldable pub turned_legs : (ℕ → ℕ → Float) → Float → ℕ → List ℕ → Float
turned_legs d sum x [] = sum
turned_legs d sum x (y ∷ ys) = turned_legs d (sum ⊕ (d y x ⊖ d x y)) y ys

-- 01: 'Taking a reversal as 0 on a table that isn't symmetric: the Rust adds up each turned leg'
unfoldable pub reversal_delta : (ℕ → ℕ → Float) → List ℕ → Float
reversal_delta d [] = zero64
reversal_delta d (x ∷ xs) = turned_legs d zero64 x xs

-- `two_opt_delta`: `new_cost - old_cost + reversal_delta`, of the stops around a piece, of its first and last visit, and of what turning it changes inside
unfoldable pub turn_change : (ℕ → ℕ → Float) → Ends → Ends → Float → Float
turn_change d around piece inside =
    (d around.from piece.to ⊕ d piece.from around.to) ⊖ (d around.from piece.from ⊕ d piece.to around.to) ⊕ inside

-- ---- a piece put in or taken out

-- `insertion_cost` of relocate and Or-opt, `removal_gain` of Or-opt: from a stop to a stop by way of a piece, less the direct leg
unfoldable pub detour : (ℕ → ℕ → Float) → Ends → Ends → Float
detour d around piece = d around.from piece.from ⊕ d piece.to around.to ⊖ d around.from around.to

-- `removal_cost` of relocate: the direct leg, less the two by way of a visit
unfoldable pub removal_cost : (ℕ → ℕ → Float) → Ends → ℕ → Float
removal_cost d around visit = d around.from around.to ⊖ d around.from visit ⊖ d visit around.to

-- a fixed cost that counts, or does not
unfoldable pub fixed_if : Bool → Float → Float
fixed_if true fixed = fixed
fixed_if false fixed = zero64

-- ---- tails exchanged

-- `find_best_exchange`: `(new_edge1 + new_edge2) - (old_edge1 + old_edge2)`, of the leg that is cut in each list
unfoldable pub tails_change : (ℕ → ℕ → Float) → Ends → Ends → Float
tails_change d one other =
    (d one.from other.to ⊕ d other.from one.to) ⊖ (d one.from one.to ⊕ d other.from other.to)

-- ---- two pieces rearranged

-- the ends of a piece as it is, or turned round
unfoldable pub turned_if : Bool → Ends → Ends
turned_if false piece = piece
turned_if true piece = record { from = piece.to; to = piece.from }

-- what turning changes inside a piece, where it is turned
unfoldable pub plus_if : Bool → Float → Float → Float
plus_if false sum inside = sum
plus_if true sum inside = sum ⊕ inside

-- the three legs from the stop before by way of one piece and the other to the stop behind
unfoldable pub through : (ℕ → ℕ → Float) → Ends → Ends → Ends → Float
through d around one other = d around.from one.from ⊕ d one.to other.from ⊕ d other.to around.to

-- the same in order, or exchanged
unfoldable pub through_if : (ℕ → ℕ → Float) → Bool → Ends → Ends → Ends → Float
through_if d false around one other = through d around one other
through_if d true around one other = through d around other one

-- `try_three_opt_move`: `cost1` to `cost7`, each less `old_cost`: are B and C exchanged, is B turned, is C turned
unfoldable pub pattern_change : (ℕ → ℕ → Float) → Cut → Bool → Bool → Bool → Float
pattern_change d cut exchanged b-turned c-turned =
    plus_if c-turned (plus_if b-turned (through_if d exchanged cut.around (turned_if b-turned cut.b) (turned_if c-turned cut.c)) cut.b_inside)
    cut.c_inside
    ⊖ through d cut.around cut.b cut.c
