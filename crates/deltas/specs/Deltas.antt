-- The deltas of the five engines by position in the lists. `d` is the distance from a stop to a stop. For the engines' definitions (Judged.antt) and for
-- the functions of src/. Assumes nothing.
use Rattle.std.specs.Prelude.{◌≡◌, Bool, true, List, ◌∷◌, ℕ, ◌+◌, ◌<◌, eqb, length, get_or, Float}
use Rattle.std.proofs.Math.Seq.{slice}
use Rattle.numbers.specs.Operations.{◌⊕◌, ◌⊖◌}
use Rattle.day.specs.Matrix.{symmetric}
use Rattle.day.specs.Refusal.{all_plain}
use Rattle.deltas.specs.Changes.{reversal_delta, turn_change, detour, removal_cost, fixed_if, tails_change, pattern_change}
use Rattle.deltas.specs.declared.Ends.{Ends}
use Rattle.deltas.specs.declared.Cut.{Cut}

-- ---- what the functions of src/ ask

-- the visits of a list are locations
abbrev pub Visits : ℕ → List ℕ → Type 0
Visits l xs = (k : ℕ) → k < length xs → get_or xs k 0 < l

-- and the depot is one
pub record Listed (l depot : ℕ) (xs : List ℕ) : Type 0 where
  pub depot_there : depot < l
  pub visits : Visits l xs

-- the symmetry mark of a table of plain distances
pub record Marked (l : ℕ) (distances : List Float) (mark : Bool) : Type 0 where
  pub right : mark ≡ symmetric l distances
  pub plain : all_plain distances ≡ true

-- ---- stops

-- the stop at a position: behind the last visit the depot
unfoldable pub stop_at : ℕ → List ℕ → ℕ → ℕ
stop_at depot xs k = get_or xs k depot

-- the stop before a position: before the first visit the depot
unfoldable pub stop_before : ℕ → List ℕ → ℕ → ℕ
stop_before depot xs k = get_or (depot ∷ xs) k depot

-- the stops around the visits from `first` up to, not including, `end`; where the two are the same position, the leg that is driven there
unfoldable pub around : ℕ → List ℕ → ℕ → ℕ → Ends
around depot xs first end = record { from = stop_before depot xs first; to = stop_at depot xs end }

-- the first and the last of these visits
unfoldable pub ends_of : ℕ → List ℕ → ℕ → ℕ → Ends
ends_of depot xs first end = record { from = stop_at depot xs first; to = stop_before depot xs end }

-- ---- within a list

-- 2-opt: the visits first to last are turned round
unfoldable pub two_opt_delta : (ℕ → ℕ → Float) → ℕ → List ℕ → ℕ → ℕ → Float
two_opt_delta d depot xs first last =
    turn_change d (around depot xs first (last + 1)) (ends_of depot xs first (last + 1)) (reversal_delta d (slice first (last + 1) xs))

-- Or-opt, `removal_gain`: the piece of `size` visits at `from` is taken out
unfoldable pub removal_gain : (ℕ → ℕ → Float) → ℕ → List ℕ → ℕ → ℕ → Float
removal_gain d depot xs size from = detour d (around depot xs from (from + size)) (ends_of depot xs from (from + size))

-- Or-opt, `insertion_cost`: it is put in before the visit at `to`
unfoldable pub piece_insertion : (ℕ → ℕ → Float) → ℕ → List ℕ → ℕ → ℕ → ℕ → Float
piece_insertion d depot xs size from to = detour d (around depot xs to to) (ends_of depot xs from (from + size))

-- Or-opt: `insertion_cost - removal_gain`
unfoldable pub or_opt_delta : (ℕ → ℕ → Float) → ℕ → List ℕ → ℕ → ℕ → ℕ → Float
or_opt_delta d depot xs size from to = piece_insertion d depot xs size from to ⊖ removal_gain d depot xs size from

-- 3-opt: the list is cut behind its visits i, j and k; B and C are the pieces between the cuts
unfoldable pub cut_at : (ℕ → ℕ → Float) → ℕ → List ℕ → ℕ → ℕ → ℕ → Cut
cut_at d depot xs i j k = record {
  around = around depot xs (i + 1) (k + 1);
  b = ends_of depot xs (i + 1) (j + 1);
  c = ends_of depot xs (j + 1) (k + 1);
  b_inside = reversal_delta d (slice (i + 1) (j + 1) xs);
  c_inside = reversal_delta d (slice (j + 1) (k + 1) xs);
}

-- 3-opt: B and C are rearranged
unfoldable pub three_opt_delta : (ℕ → ℕ → Float) → ℕ → List ℕ → ℕ → ℕ → ℕ → Bool → Bool → Bool → Float
three_opt_delta d depot xs i j k exchanged b-turned c-turned = pattern_change d (cut_at d depot xs i j k) exchanged b-turned c-turned

-- ---- across lists

-- tail exchange: list X is cut before position cut1, list Y before cut2
unfoldable pub exchange_delta : (ℕ → ℕ → Float) → ℕ → List ℕ → List ℕ → ℕ → ℕ → Float
exchange_delta d depot X Y cut1 cut2 = tails_change d (around depot X cut1 cut1) (around depot Y cut2 cut2)

-- relocate, `removal_delta`: the visit at a position is taken out, and the fixed cost is saved where it was the only one
unfoldable pub removal_delta : (ℕ → ℕ → Float) → ℕ → Float → List ℕ → ℕ → Float
removal_delta d depot fixed X position =
    removal_cost d (around depot X position (position + 1)) (stop_at depot X position) ⊖ fixed_if (eqb (length X) 1) fixed

-- relocate, `insertion_cost`: a visit is put in at a place
unfoldable pub insertion_cost : (ℕ → ℕ → Float) → ℕ → List ℕ → ℕ → ℕ → Float
insertion_cost d depot Y visit place = detour d (around depot Y place place) (record { from = visit; to = visit })

-- relocate, `insertion_delta`: the fixed cost is paid where the list was empty
unfoldable pub insertion_delta : (ℕ → ℕ → Float) → ℕ → Float → List ℕ → ℕ → ℕ → Float
insertion_delta d depot fixed Y visit place = insertion_cost d depot Y visit place ⊕ fixed_if (eqb (length Y) 0) fixed

-- relocate: `removal_delta + insertion_delta`
unfoldable pub relocate_delta : (ℕ → ℕ → Float) → ℕ → Float → List ℕ → List ℕ → ℕ → ℕ → Float
relocate_delta d depot fixed X Y position place =
    removal_delta d depot fixed X position ⊕ insertion_delta d depot fixed Y (stop_at depot X position) place
