-- The starred days of document 01 ('Days worked through') that the five engines have: one theorem over a table. Assumes nothing.
use mathlib.Core.Path.{◌≡◌, refl}
use mathlib.Core.Bool.{true, false}
use mathlib.Core.List.{List, [], ◌∷◌, map}
use Prim.Native.Nat.{ℕ, ◌+◌, ◌-◌, ◌*◌}
use lib.ListN.{get_or}
use Rattle.descent.specs.Sum.{Roads, cost}
use Rattle.descent.specs.Permitted.{Checks, n_minus_length, Engine, two_opt, three_opt, or_opt, tail_exchange, relocate, State, lists}
use Rattle.descent.specs.Search.{Word, settled, stopped, run, next, first_move, taken, ok, first_least, least}
use Rattle.descent.specs.Engines.{run_of}
use Rattle.descent.specs.Claim.{handed}
use Rattle.descent.proofs.Legs.{by_legs}

-- 'Places 0 to 4 at 0, 10, 20, 30, 40 on a line, depot 0, distance the gap, no times, demand 1, service 0, no cost.'
abbrev line : Roads
line = record { distance = λ a b. 10 * ((a - b) + (b - a)); depot = 0; fixed = 0 }

abbrev boxes : ℕ → Checks
boxes capacity = record { measures = record { demand = λ office. 1; capacity = capacity } ∷ []; passes = λ xs. true }

pub record Answer : Type 0 where
  pub back : List (List ℕ)
  pub sum : ℕ
  pub moves : ℕ
  pub word : Word

-- an engine, a capacity, a limit and what is lent; and what it gives
pub record Row : Type 0 where
  pub asked : Answer
  pub gives : Answer

abbrev day : Roads → (e : Engine) → ℕ → ℕ → State e → List (List ℕ) → ℕ → ℕ → Word → Row
day roads e capacity limit lent back sum moves word =
    let r = run_of e (boxes capacity) (by_legs roads e) limit lent in
    record {
      asked = record { back = lists e (handed e r.last.now); sum = cost roads (lists e (handed e r.last.now)); moves = r.moves; word = r.word };
      gives = record { back = back; sum = sum; moves = moves; word = word };
    }

abbrev table : List Row
table =
    day line two_opt 9 9 (2 ∷ 1 ∷ 3 ∷ []) ((1 ∷ 2 ∷ 3 ∷ []) ∷ []) 60 1 settled
    ∷ day line two_opt 9 0 (2 ∷ 1 ∷ 3 ∷ []) ((2 ∷ 1 ∷ 3 ∷ []) ∷ []) 80 0 stopped
    ∷ day line (or_opt n_minus_length) 9 9 (3 ∷ 1 ∷ 2 ∷ []) ((1 ∷ 3 ∷ 2 ∷ []) ∷ []) 60 1 settled
    ∷ day line three_opt 9 9 (2 ∷ 1 ∷ 3 ∷ []) ((2 ∷ 1 ∷ 3 ∷ []) ∷ []) 80 0 settled
    ∷ day line three_opt 9 9 (1 ∷ 3 ∷ 2 ∷ 4 ∷ []) ((1 ∷ 2 ∷ 3 ∷ 4 ∷ []) ∷ []) 80 1 settled
    ∷ day line (relocate false) 3 9 ((1 ∷ 3 ∷ []) ∷ (2 ∷ []) ∷ []) ((1 ∷ 2 ∷ 3 ∷ []) ∷ []) 60 1 settled
    ∷ day line tail_exchange 2 9 ((3 ∷ 1 ∷ []) ∷ (2 ∷ 4 ∷ []) ∷ []) ((3 ∷ 4 ∷ []) ∷ (2 ∷ 1 ∷ []) ∷ []) 120 1 settled
    ∷ []

pub days : map (λ row. row.asked) table ≡ map (λ row. row.gives) table
unfolding run_of run next first_move taken ok first_least least
days = refl

-- ---- days of ours, which tell the orders of search apart: each fails if the sweep goes on where it should begin again, or the other way round, or
-- if places or candidates come in another order

abbrev matrix : Roads
matrix = record {
  distance = λ a b. get_or (get_or (((0 ∷ 1 ∷ 2 ∷ 2 ∷ 5 ∷ 3 ∷ []) ∷ (3 ∷ 0 ∷ 2 ∷ 1 ∷ 2 ∷ 2 ∷ []) ∷ (2 ∷ 2 ∷ 0 ∷ 3 ∷ 4 ∷ 5 ∷ []) ∷
      (1 ∷ 3 ∷ 4 ∷ 0 ∷ 2 ∷ 5 ∷ []) ∷ (3 ∷ 5 ∷ 2 ∷ 3 ∷ 0 ∷ 4 ∷ []) ∷ (1 ∷ 2 ∷ 2 ∷ 5 ∷ 4 ∷ 0 ∷ []) ∷ [])) a []) b 0;
  depot = 0;
  fixed = 0;
}

abbrev more : List Row
more =
    day matrix two_opt 4 9 (5 ∷ 3 ∷ 1 ∷ 4 ∷ 2 ∷ []) ((1 ∷ 3 ∷ 4 ∷ 2 ∷ 5 ∷ []) ∷ []) 12 4 settled
    ∷ day matrix two_opt 4 9 (4 ∷ 1 ∷ 3 ∷ 2 ∷ 5 ∷ []) ((2 ∷ 3 ∷ 4 ∷ 1 ∷ 5 ∷ []) ∷ []) 15 2 settled
    ∷ day matrix (or_opt n_minus_length) 4 9 (3 ∷ 2 ∷ 4 ∷ 5 ∷ 1 ∷ []) ((3 ∷ 4 ∷ 2 ∷ 1 ∷ 5 ∷ []) ∷ []) 11 2 settled
    ∷ day matrix three_opt 4 9 (1 ∷ 4 ∷ 2 ∷ 3 ∷ 5 ∷ []) ((1 ∷ 3 ∷ 4 ∷ 2 ∷ 5 ∷ []) ∷ []) 12 2 settled
    ∷ day matrix three_opt 4 9 (1 ∷ 2 ∷ 5 ∷ 3 ∷ 4 ∷ []) ((1 ∷ 3 ∷ 4 ∷ 5 ∷ 2 ∷ []) ∷ []) 12 2 settled
    ∷ day matrix tail_exchange 4 9 ((2 ∷ []) ∷ (3 ∷ 5 ∷ 4 ∷ []) ∷ (1 ∷ []) ∷ []) ((2 ∷ []) ∷ (3 ∷ 4 ∷ []) ∷ (1 ∷ 5 ∷ []) ∷ []) 15 3 settled
    ∷ day matrix tail_exchange 4 9 ((3 ∷ 2 ∷ 1 ∷ []) ∷ (4 ∷ 5 ∷ []) ∷ []) ((3 ∷ []) ∷ (4 ∷ 5 ∷ 2 ∷ 1 ∷ []) ∷ []) 19 1 settled
    ∷ day matrix (relocate false) 4 9 ((5 ∷ []) ∷ (1 ∷ []) ∷ (4 ∷ 3 ∷ 2 ∷ []) ∷ []) ((5 ∷ []) ∷ (1 ∷ 3 ∷ 4 ∷ 2 ∷ []) ∷ []) 12 3 settled
    ∷ day matrix (relocate false) 4 9 ((2 ∷ 3 ∷ []) ∷ (5 ∷ 1 ∷ []) ∷ (4 ∷ []) ∷ []) ((5 ∷ []) ∷ (1 ∷ 3 ∷ 4 ∷ 2 ∷ []) ∷ []) 12 3 settled
    ∷ []

pub orders : map (λ row. row.asked) more ≡ map (λ row. row.gives) more
unfolding run_of run next first_move taken ok first_least least
orders = refl
