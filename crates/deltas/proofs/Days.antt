-- The definitions at known values, so that a slip in one of them shows: the seven patterns of 3-opt in the Rust's words, and document 01's starred days
-- ('Days worked through') by the float judge, as one theorem over a table each. Assumes nothing.
use mathlib.Core.Path.{◌≡◌, refl}
use mathlib.Core.Bool.{true, false}
use mathlib.Core.List.{List, [], ◌∷◌, map}
use Prim.Native.Nat.{ℕ}
use lib.IntN.{pos}
use lib.Ieee.{Float, binary64, of_bits, of_int, add, sub, mul, lt, neg}
use Rattle.numbers.specs.Operations.{◌⊕◌, ◌⊖◌}
use Rattle.numbers.specs.Floor.{gain_floor}
use Rattle.numbers.specs.Total.{largest}
use Rattle.day.specs.Matrix.{leg, scale_of}
use Rattle.descent.specs.Permitted.{Checks, n_minus_length, Arrangement, seven, Engine, two_opt, three_opt, or_opt, tail_exchange, relocate, State, lists}
use Rattle.descent.specs.Search.{Word, settled, stopped, run, next, first_move, taken, ok, first_least, least}
use Rattle.descent.specs.Engines.{run_of}
use Rattle.descent.specs.Claim.{handed}
use Rattle.deltas.specs.Changes.{turned_legs, reversal_delta, turn_change, detour, removal_cost, fixed_if, tails_change, turned_if, plus_if, through, through_if}
use Rattle.deltas.specs.Changes.{pattern_change}
use Rattle.deltas.specs.Deltas.{stop_at, stop_before, around, ends_of, two_opt_delta, removal_gain, piece_insertion, or_opt_delta, cut_at, three_opt_delta}
use Rattle.deltas.specs.Deltas.{exchange_delta, removal_delta, insertion_cost, insertion_delta, relocate_delta}
use Rattle.deltas.specs.Judged.{Map, float_judge}
use Rattle.deltas.specs.declared.Cut.{Cut}

-- ---- `cost1` to `cost7` and `old_cost`

module _ (d : ℕ → ℕ → Float) (a-end b-start b_end c-start c-end d-start : ℕ) (rev-b rev-c : Float) where
  abbrev cut : Cut
  cut = record {
    around = record { from = a-end; to = d-start };
    b = record { from = b-start; to = b_end };
    c = record { from = c-start; to = c-end };
    b_inside = rev-b;
    c_inside = rev-c;
  }

  abbrev old_cost : Float
  old_cost = d a-end b-start ⊕ d b_end c-start ⊕ d c-end d-start

  pub patterns : map (λ (w : Arrangement). pattern_change d cut w.0 w.1 w.2) seven
      ≡ (d a-end b-start ⊕ d b_end c-end ⊕ d c-start d-start ⊕ rev-c ⊖ old_cost)
      ∷ (d a-end b_end ⊕ d b-start c-start ⊕ d c-end d-start ⊕ rev-b ⊖ old_cost)
      ∷ (d a-end b_end ⊕ d b-start c-end ⊕ d c-start d-start ⊕ rev-b ⊕ rev-c ⊖ old_cost)
      ∷ (d a-end c-start ⊕ d c-end b-start ⊕ d b_end d-start ⊖ old_cost)
      ∷ (d a-end c-start ⊕ d c-end b_end ⊕ d b-start d-start ⊕ rev-b ⊖ old_cost)
      ∷ (d a-end c-end ⊕ d c-start b-start ⊕ d b_end d-start ⊕ rev-c ⊖ old_cost)
      ∷ (d a-end c-end ⊕ d c-start b_end ⊕ d b-start d-start ⊕ rev-b ⊕ rev-c ⊖ old_cost)
      ∷ []
  unfolding pattern_change plus_if through_if through turned_if
  patterns = refl

-- ---- the starred days

-- 'Places 0 to 4 at 0, 10, 20, 30, 40 on a line, depot 0, distance the gap, no times, demand 1, service 0, no cost.'
abbrev line : Map
line = record {
  l = 5;
  distances = map (λ n. of_int binary64 (pos n)) (
      0 ∷ 10 ∷ 20 ∷ 30 ∷ 40
      ∷ 10 ∷ 0 ∷ 10 ∷ 20 ∷ 30
      ∷ 20 ∷ 10 ∷ 0 ∷ 10 ∷ 20
      ∷ 30 ∷ 20 ∷ 10 ∷ 0 ∷ 10
      ∷ 40 ∷ 30 ∷ 20 ∷ 10 ∷ 0 ∷ []
      );
  depot = 0;
  fixed = of_int binary64 (pos 0);
}

-- a table on which the way back is not the way there: visit 2 is far from visit 1, and near in the other direction
abbrev one_way : Map
one_way = record {
  l = 3;
  distances = map (λ n. of_int binary64 (pos n)) (0 ∷ 1 ∷ 1 ∷ 1 ∷ 0 ∷ 9 ∷ 1 ∷ 1 ∷ 0 ∷ []);
  depot = 0;
  fixed = of_int binary64 (pos 0);
}

abbrev boxes : ℕ → Checks
boxes capacity = record { measures = record { demand = λ office. 1; capacity = capacity } ∷ []; passes = λ xs. true }

pub record Answer : Type 0 where
  pub back : List (List ℕ)
  pub moves : ℕ
  pub word : Word

-- what an engine answers on a map, with a capacity, a limit and what is lent
abbrev answer : (e : Engine) → Map → ℕ → ℕ → State e → Answer
answer e map capacity limit lent =
    let r = run_of e (boxes capacity) (float_judge e map) limit lent in
    record { back = lists e (handed e r.last.now); moves = r.moves; word = r.word }

pub days : answer two_opt line 9 9 (2 ∷ 1 ∷ 3 ∷ [])
    ∷ answer two_opt line 9 0 (2 ∷ 1 ∷ 3 ∷ [])
    ∷ answer (or_opt n_minus_length) line 9 9 (3 ∷ 1 ∷ 2 ∷ [])
    ∷ answer three_opt line 9 9 (2 ∷ 1 ∷ 3 ∷ [])
    ∷ answer three_opt line 9 9 (1 ∷ 3 ∷ 2 ∷ 4 ∷ [])
    ∷ answer (relocate false) line 3 9 ((1 ∷ 3 ∷ []) ∷ (2 ∷ []) ∷ [])
    ∷ answer tail_exchange line 2 9 ((3 ∷ 1 ∷ []) ∷ (2 ∷ 4 ∷ []) ∷ [])
    ∷ answer two_opt one_way 9 9 (1 ∷ 2 ∷ [])
    ∷ []
    ≡ record { back = (1 ∷ 2 ∷ 3 ∷ []) ∷ []; moves = 1; word = settled }
    ∷ record { back = (2 ∷ 1 ∷ 3 ∷ []) ∷ []; moves = 0; word = stopped }
    ∷ record { back = (1 ∷ 3 ∷ 2 ∷ []) ∷ []; moves = 1; word = settled }
    ∷ record { back = (2 ∷ 1 ∷ 3 ∷ []) ∷ []; moves = 0; word = settled }
    ∷ record { back = (1 ∷ 2 ∷ 3 ∷ 4 ∷ []) ∷ []; moves = 1; word = settled }
    ∷ record { back = (1 ∷ 2 ∷ 3 ∷ []) ∷ []; moves = 1; word = settled }
    ∷ record { back = (3 ∷ 4 ∷ []) ∷ (2 ∷ 1 ∷ []) ∷ []; moves = 1; word = settled }
    ∷ record { back = (2 ∷ 1 ∷ []) ∷ []; moves = 1; word = settled }
    ∷ []
unfolding run_of run next first_move taken ok first_least least of_int of_bits gain_floor scale_of largest mul add sub lt neg leg turned_legs reversal_delta
    turn_change detour removal_cost fixed_if tails_change turned_if plus_if through through_if pattern_change stop_at stop_before around ends_of
    two_opt_delta removal_gain piece_insertion or_opt_delta cut_at three_opt_delta exchange_delta removal_delta insertion_cost insertion_delta relocate_delta
days = refl
