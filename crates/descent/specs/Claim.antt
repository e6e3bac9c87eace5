-- Demand 3: what is claimed of a whole run of any of the five engines. For every entry's contract. Assumes nothing.
use Rattle.std.specs.Prelude.{◌≡◌, List, [], ◌∷◌, ℕ, zero, suc, ◌+◌, ◌≤◌, ◌<◌, get_or}
use Rattle.edits.specs.Total.{total, count}
use Rattle.descent.specs.Order.{◌∈◌}
use Rattle.descent.specs.Sum.{Roads, cost}
use Rattle.descent.specs.Permitted.{Measure, Checks, load, Engine, two_opt, three_opt, or_opt, tail_exchange, relocate, State, lists, Permitted}
use Rattle.descent.specs.Search.{Word, settled, stopped}

-- n steps of R lead from a state to a state, 'each made on what the one before left'
pub data Steps {S : Type 0} (R : S → S → Type 0) : ℕ → S → S → Type 0 where
  none_made : {s : S} → Steps R zero s s
  one_more : {n : ℕ} {s t u : S} → R s t → Steps R n t u → Steps R (suc n) s u

-- a move that is 'permitted' and 'lowers the sum'
pub record Lowering (e : Engine) (roads : Roads) (checks : Checks) (x y : State e) : Type 0 where
  pub permitted : Permitted e checks x y
  pub lower : cost roads (lists e y) < cost roads (lists e x)

-- the lists that have a visit, in their order
abbrev pub filled : List (List ℕ) → List (List ℕ)
filled [] = []
filled ([] ∷ ls) = filled ls
filled ((x ∷ xs) ∷ ls) = (x ∷ xs) ∷ filled ls

-- 'empty lists dropped in order. With fewer than two lists [..] lists return as given'
abbrev pub dropped : List (List ℕ) → List (List ℕ)
dropped [] = []
dropped (xs ∷ []) = xs ∷ []
dropped (xs ∷ ys ∷ ls) = filled (xs ∷ ys ∷ ls)

-- what an engine hands back: 'the dropping of empty lists at the end' is relocate's and tail exchange's
abbrev pub handed : (e : Engine) → State e → State e
handed two_opt xs = xs
handed three_opt xs = xs
handed (or_opt last) xs = xs
handed tail_exchange ls = dropped ls
handed (relocate giver-tested) ls = dropped ls

-- THE CLAIM, of what is lent, the move limit, what the last move left, what is handed back, the moves reported and the end word
pub record Claim (e : Engine) (roads : Roads) (checks : Checks) (limit : ℕ) (lent ended back : State e) (moves : ℕ) (word : Word) : Type 0 where
  -- 'exactly that many moves, each permitted, each lowering the sum and each made on what the one before left'
  pub chain : Steps (Lowering e roads checks) moves lent ended
  -- 'but for the dropping of empty lists at the end, which is no move'
  pub dropping : back ≡ handed e ended
  -- the sum at the start is at least the sum handed back plus the moves
  pub sum : cost roads (lists e back) + moves ≤ cost roads (lists e lent)
  -- 'exactly the offices of the lists lent, each once': each as often as it was lent
  pub offices : (x : ℕ) → total (count x) (lists e back) ≡ total (count x) (lists e lent)
  -- 'no list that met a capacity at the start is over it at the end', by list number before the dropping
  pub loads : (m : Measure) → m ∈ checks.measures → (r : ℕ)
      → load m (get_or (lists e lent) r []) ≤ m.capacity → load m (get_or (lists e ended) r []) ≤ m.capacity
  -- '`settled` only when every move document 01 permits that engine on the lists handed back leaves a sum at least as great'
  pub settles : word ≡ settled → (y : State e) → Permitted e checks back y → cost roads (lists e back) ≤ cost roads (lists e y)
  -- '`stopped` only after exactly as many moves as the limit', and where a move is left
  pub stops : word ≡ stopped → moves ≡ limit
  pub left : word ≡ stopped → (y : State e) × Lowering e roads checks ended y
  -- 'a limit no less than the starting sum always ends `settled`'
  pub enough : cost roads (lists e lent) ≤ limit → word ≡ settled
