-- The definitions, computed: each refusal on the smallest lists that meet it. Assumes nothing.
use mathlib.Core.Path.{◌≡◌, refl}
use mathlib.Core.List.{List, [], ◌∷◌}
use Prim.Native.Nat.{ℕ}
use lib.ListN.{replicate}
use Rattle.tests.specs.All.{all_below, unless}
use Rattle.list_refusals.specs.Refused.{all_short, shape_ok, visit_ok, visits_ok, new_at, distinct, table_refusal, lists_refusal}

-- lists of a day of five locations, the first of them the depot
refusal : List ℕ → List ℕ → ℕ → ℕ
refusal visits lengths asked = lists_refusal 1 5 visits lengths asked

refusals :
    (refusal (1 ∷ 2 ∷ 3 ∷ []) (2 ∷ 0 ∷ 1 ∷ []) 2) ∷
    -- 8: 17 lists; lengths that are short of the table, and that are beyond it; a list of 64; lengths whose sum, as a u16, would be right; the number of lists
    (refusal [] (replicate 17 0) 0) ∷
    (refusal (1 ∷ 2 ∷ 3 ∷ []) (2 ∷ []) 0) ∷
    (refusal (1 ∷ 2 ∷ 3 ∷ []) (4 ∷ []) 0) ∷
    (refusal (replicate 64 1) (64 ∷ []) 0) ∷
    (refusal [] (65535 ∷ 1 ∷ []) 0) ∷
    (refusal (1 ∷ []) (1 ∷ []) 1) ∷
    -- 9: a depot; location L. Before 10, and behind 8
    (refusal (0 ∷ []) (1 ∷ []) 0) ∷
    (refusal (5 ∷ 5 ∷ []) (2 ∷ []) 0) ∷
    (refusal (5 ∷ 5 ∷ []) (2 ∷ []) 1) ∷
    -- 10: twice in one list, and in two
    (refusal (1 ∷ 1 ∷ []) (2 ∷ []) 0) ∷
    (refusal (1 ∷ 2 ∷ 1 ∷ []) (2 ∷ 1 ∷ []) 0) ∷ []
    ≡ 0 ∷ 8 ∷ 8 ∷ 8 ∷ 8 ∷ 8 ∷ 8 ∷ 9 ∷ 9 ∷ 8 ∷ 10 ∷ 10 ∷ []
unfolding refusal lists_refusal table_refusal shape_ok all_short visits_ok visit_ok distinct new_at all_below unless
refusals = refl
