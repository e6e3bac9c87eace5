-- Relocations by ordered pairs of lists: the moves out of one list into another, the best of them, the table that keeps the best of every pair, and the
-- least entry of it. For the contracts of src/ and for the two relocate engines. Over any delta and any test. Assumes nothing.
use Rattle.std.specs.Prelude.{◌≡◌, ◌⊎◌, ◌≢◌, Bool, true, false, cond, not, ◌&&◌, ◌||◌, List, [], ◌∷◌, map, ℕ, suc, ◌+◌, ◌*◌, ◌≤◌, ◌<◌, ltb, eqb, length, get_or, set, Float}
use Rattle.std.proofs.Math.Option.{Option, none, some}
use Rattle.std.specs.Float.{nan}
use Rattle.std.specs.Float.Ieee.{lt, eq}
use Rattle.descent.specs.Order.{range, each}
use Rattle.descent.specs.Across.{at, Relocation}
use Rattle.descent.specs.Scan.{onward, figure}
use Rattle.pairs.specs.declared.Choice.{Choice}
use Rattle.pairs.specs.declared.PairTable.{PairTable}

-- ---- the moves of a pair of lists

-- `for from_pos in 0..routes[from_r].len()`, `for to_pos in 0..=to_route.len()`
abbrev pub across : List (List ℕ) → ℕ → ℕ → List Relocation
across ls from to =
    each (range 0 (length (at ls from))) λ position.
    map (λ place. record { from = from; position = position; to = to; place = place }) (range 0 (suc (length (at ls to))))

-- `if from_r == to_r { return None; }`
unfoldable pub between : List (List ℕ) → ℕ → ℕ → List Relocation
between ls from to = cond (eqb from to) [] (across ls from to)

-- a move lies in the lists: a visit of one list, and a place of another
pub record Moves (ls : List (List ℕ)) (from position to place : ℕ) : Type 0 where
  pub gives : from < length ls
  pub takes : to < length ls
  pub apart : from ≢ to
  pub visit_there : position < length (at ls from)
  pub place_there : place ≤ length (at ls to)

-- the visits of no list are more than a table of lists holds
pub record Short (ls : List (List ℕ)) : Type 0 where
  pub short : (r : ℕ) → length (at ls r) ≤ 1008

-- ---- a choice

-- `Some` and `None`, as 1 and 0
unfoldable pub found_if : Bool → ℕ
found_if is = cond is 1 0

-- `Some`
abbrev pub is_found : Choice → Bool
is_found c = not (eqb c.found 0)

-- its numbers as a move
abbrev pub as_move : Choice → Relocation
as_move c = record { from = c.from; position = c.position; to = c.to; place = c.place }

-- the move that a choice says
unfoldable pub move_of : Choice → Option Relocation
move_of c = elim (is_found c) [ true ↦ some (as_move c) | false ↦ none ]

-- while none is found, minus the floor
abbrev pub nothing : Float → Choice
nothing bound = record { found = 0; from = 0; position = 0; to = 0; place = 0; delta = bound }

-- ---- the order of `best`: `a.delta.total_cmp(&b.delta).then((a.from_route, a.from_pos, a.to_route, a.to_pos).cmp(..))`

-- one number, then the rest
unfoldable pub in_order : ℕ → ℕ → Bool → Bool
in_order a b rest = ltb a b || (eqb a b && rest)

-- (from, position, to, place)
unfoldable pub earlier : Relocation → Relocation → Bool
earlier m b = in_order m.from b.from (in_order m.position b.position (in_order m.to b.to (ltb m.place b.place)))

-- the delta, then the rest
unfoldable pub less_then : Float → Float → Bool → Bool
less_then a b rest = lt a b || (eq a b && rest)

-- the one before the other
unfoldable pub ahead : Choice → Choice → Bool
ahead c best = is_found c && less_then c.delta best.delta (earlier (as_move c) (as_move best))

-- the first of the two
unfoldable pub first_of : Choice → Choice → Choice
first_of best c = cond (ahead c best) c best

-- the first of the best so far and some more
unfoldable pub first_among : List Choice → Choice → Choice
first_among [] best = best
first_among (c ∷ cs) best = first_among cs (first_of best c)

-- ---- the table: `pairs[from * n + to]`

-- 16 lists, so 256 pairs
pub record Sized (t : PairTable) : Type 0 where
  pub deltas_size : length t.deltas ≡ 256
  pub positions_size : length t.positions ≡ 256
  pub places_size : length t.places ≡ 256

-- where the pair (from, to) stands
abbrev pub slot : ℕ → ℕ → ℕ
slot from to = 16 * from + to

-- what the table says of a pair
unfoldable pub entry : Float → PairTable → ℕ → ℕ → Choice
entry bound t from to = record {
  found = found_if (lt (get_or t.deltas (slot from to) nan) bound);
  from = from;
  position = get_or t.positions (slot from to) 0;
  to = to;
  place = get_or t.places (slot from to) 0;
  delta = get_or t.deltas (slot from to) nan;
}

-- a number as it is stored: 0 where it isn't a u16
unfoldable pub narrowed : ℕ → ℕ
narrowed k = cond (ltb k 65536) k 0

-- the table with a pair's best put in
unfoldable pub put : PairTable → ℕ → ℕ → Choice → PairTable
put t from to c = record {
  deltas = set t.deltas (slot from to) c.delta;
  positions = set t.positions (slot from to) (narrowed c.position);
  places = set t.places (slot from to) (narrowed c.place);
}

-- what it says of the pairs (from, first), (from, first + 1), ..
abbrev pub row_from : ℕ → Float → PairTable → ℕ → ℕ → List Choice
row_from n bound t from first = map (entry bound t from) (range first n)

-- and of the rows from `from` on
abbrev pub rows_from : ℕ → Float → PairTable → ℕ → List Choice
rows_from n bound t from = each (range from n) λ row. row_from n bound t row 0

-- `best`: the first of all entries
unfoldable pub least_entry : ℕ → Float → PairTable → Choice
least_entry n bound t = first_among (rows_from n bound t 0) (nothing bound)

-- ---- what the table has to say

module _ (delta : Relocation → Float) (pass : Relocation → Bool) (bound : Float) (ls : List (List ℕ)) where
  -- `best_between`
  unfoldable pub pair_best : ℕ → ℕ → Option Relocation
  pair_best from to = onward delta pass bound none (between ls from to)

  -- a choice is a pair's best: the contract of every search of a pair
  pub record IsBest (from to : ℕ) (c : Choice) : Type 0 where
    pub best : move_of c ≡ pair_best from to
    pub figured : c.delta ≡ figure delta pass bound (move_of c)

  -- a pair was searched and its best put into the table
  pub record Stored (from to : ℕ) (old new : PairTable) : Type 0 where
    pub choice : Choice
    pub is_best : IsBest from to choice
    pub is_put : new ≡ put old from to choice

  -- `out_of` and `into`: two lists were searched both ways
  pub record StoredBoth (r other : ℕ) (old new : PairTable) : Type 0 where
    pub middle : PairTable
    pub out_of : Stored r other old middle
    pub into : Stored other r middle new

  -- the entries of the pairs that are done are right
  pub record RightWhere (n : ℕ) (done : ℕ → ℕ → Type 0) (t : PairTable) : Type 0 where
    pub sized : Sized t
    pub right : (from to : ℕ) → from < n → to < n → done from to → IsBest from to (entry bound t from to)

  -- all are
  abbrev pub Right : ℕ → PairTable → Type 0
  Right n t = RightWhere n (λ from to. Unit {0}) t

-- ---- which pairs are done

-- row by row: the rows before `row`, and of `row` itself the columns before `column`
abbrev pub Before : ℕ → ℕ → ℕ → ℕ → Type 0
Before row column from to = (from < row) ⊎ ((from ≡ row) × (to < column))

-- neither list of a move is in the pair
abbrev pub Untouched : ℕ → ℕ → ℕ → ℕ → Type 0
Untouched a b from to = (from ≢ a) × (from ≢ b) × (to ≢ a) × (to ≢ b)

-- `for other in 0..n`, `for r in [a, b]`: those that are untouched, and those searched again with the lists before `other`
abbrev pub Renewed : ℕ → ℕ → ℕ → ℕ → ℕ → Type 0
Renewed a b other from to = Untouched a b from to ⊎ ((((from ≡ a) ⊎ (from ≡ b)) × (to < other)) ⊎ (((to ≡ a) ⊎ (to ≡ b)) × (from < other)))

-- the lists but a and b are as they were, and so are delta and test of every move between them
pub record Agree (delta delta' : Relocation → Float) (pass pass' : Relocation → Bool) (ls ls' : List (List ℕ)) (a b : ℕ) : Type 0 where
  pub same_list : (r : ℕ) → r ≢ a → r ≢ b → at ls' r ≡ at ls r
  pub same_delta : (m : Relocation) → Untouched a b m.from m.to → delta' m ≡ delta m
  pub same_test : (m : Relocation) → Untouched a b m.from m.to → pass' m ≡ pass m
